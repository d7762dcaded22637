-- The arrays that the code computes hold the tables of the residual system.
use mathlib.Core.Path.{◌≡◌, refl, sym, ap, ◌∙◌, subst}
use mathlib.Core.Bool.{Bool, true, false}
use mathlib.Core.List.{List}
use Prim.Native.Nat.{ℕ, ◌+◌, ◌^◌, ◌<◌}
use lib.ListN.{length, get_or, take}
use Rattle.std.proofs.lemmas.List.{length-take-le}
use native.Mathlib.Omega.{arith}
use lib.Dec.{eqb}
use lib.Pow.{pow_pos, pow_mono}
use Rattle.meaning.specs.Traces.{Alphabet, masked}
use Rattle.meaning.specs.declared.Node.{Node}
use Rattle.ltl.specs.Sets.{on, some_below}
use Rattle.ltl.specs.Nodes.{splits, temporals}
use Rattle.ltl.specs.Realizable.{realizable}
use Rattle.ltl.specs.Residuals.{before, whole_set}
use Rattle.ltl.specs.Keys.{look, tables_of}
use Rattle.ltl.proofs.Sets.{on_out}
use Rattle.ltl.proofs.Tables.{Tabulates}
use Rattle.ltl.proofs.Bounds.{profile-lt, whole-lt}
use Rattle.ltl.proofs.SameTables.{same_whole}
use Rattle.ltl.proofs.Instance.{made-tabulates}
use Rattle.valuation.specs.Valued.{RuleNodes, Valuable, profile_at, fairs_at}
use Rattle.valuation.specs.Entries.{Entries, Table}
use Rattle.relations.proofs.Searches.{some_same, some-event-same}
use Rattle.ltl.specs.Arrays.{TablesIn}
use Rattle.labelling.specs.Marks.{hits, AllMarked}
use Rattle.labelling.proofs.Marks.{gives, marks-on}

-- the first `count` of 64 nodes are a rule
pub rule-of : (count : ℕ) (nodes : List Node) → length nodes ≡ 64 → Valuable count nodes → RuleNodes (take count nodes)
rule-of count nodes l v =
    let e = length-take-le count nodes (omega (arith, l, v.few)) in
    record { some = rw e v.some; few = rw e v.few; temporal = v.temporal }

-- what the code computes for the nodes, with the events that can happen, n labels and m temporal nodes
pub record Computed (Σ : Alphabet) (n m : ℕ) (nodes : List Node) (profiles fairs : List (List ℕ)) (real whole : List Bool) : Type 0 where
  pub profile : Table Σ.width n (profile_at nodes) profiles
  pub fair : Table Σ.width n (fairs_at nodes) fairs
  pub labels : Entries n (on (realizable Σ n (before n (look profiles)) (look fairs) m)) false real
  pub marks : AllMarked Σ n profiles real whole

-- all events below w: the tables have their profiles, whether or not they can happen
abbrev all : ℕ → Alphabet
all w = record { width = w; possible = λ e. true }

module _ (Σ : Alphabet) (nodes : List Node) {profiles fairs : List (List ℕ)} {real whole : List Bool} where
  module _ (h : Computed Σ (2 ^ temporals (splits nodes)) (temporals (splits nodes)) nodes profiles fairs real whole) where
    tabulates : Tabulates Σ (splits nodes) (look profiles) (look fairs)
    tabulates = record { profile-is = λ e y p l. h.profile.entry e y p.0 l; fair-is = λ e y p l. h.fair.entry e y p.0 l }

    member : (p : ℕ) → p < 256 → get_or whole p false ≡ on (tables_of Σ (splits nodes)).whole p
    unfolding tables_of whole_set
    member p l =
        let R = realizable Σ (2 ^ temporals (splits nodes)) (before (2 ^ temporals (splits nodes)) (look profiles)) (look fairs) (temporals (splits nodes)) in
        h.marks.is p l
        ∙ some-event-same Σ (λ e. some_below (2 ^ temporals (splits nodes)) (hits profiles real e p)) (λ e. some_below (2 ^ temporals (splits nodes)) (gives Σ (2 ^ temporals (splits nodes)) (look profiles) R p e))
        (λ e a. some_same (2 ^ temporals (splits nodes)) (hits profiles real e p) (gives Σ (2 ^ temporals (splits nodes)) (look profiles) R p e)
        (λ y b. ap (λ (t : Bool). elim t [ true ↦ eqb (look profiles e y) p | false ↦ false ]) (h.labels.entry y b)))
        ∙ marks-on Σ (2 ^ temporals (splits nodes)) (look profiles) R p
        ∙ ap (λ (A : ℕ). on A p) (same_whole tabulates (made-tabulates Σ (splits nodes)))

    tables-in : RuleNodes nodes → TablesIn Σ.width (2 ^ temporals (splits nodes)) (tables_of Σ (splits nodes)) profiles whole
    unfolding tables_of
    tables-in v = record {
      labels = refl;
      some = pow_pos (temporals (splits nodes));
      few = pow_mono {j = 7} v.temporal;
      profile = λ e y a b. h.profile.entry e y a b ∙ sym ((made-tabulates (all Σ.width) (splits nodes)).profile-is e y (a, tt) b);
      small = λ e y a b. subst (λ (p : ℕ). p < 2 ^ temporals (splits nodes) + 2 ^ temporals (splits nodes)) (sym (h.profile.entry e y a b)) (profile-lt e y (splits nodes));
      member = member;
      past = λ p a. on_out (tables_of Σ (splits nodes)).whole (2 ^ temporals (splits nodes) + 2 ^ temporals (splits nodes)) p (whole-lt (made-tabulates Σ (splits nodes))) a;
    }

-- the same, where the counts are the code's
pub all-computed : (P mask w n m : ℕ) (nodes : List Node) {profiles fairs : List (List ℕ)} {real whole : List Bool} → m ≡ temporals (splits nodes) → n ≡ 2 ^ m → w ≡ 2 ^ P
    → RuleNodes nodes → Computed (masked w mask) n m nodes profiles fairs real whole
    → TablesIn (2 ^ P) (2 ^ m) (tables_of (masked (2 ^ P) mask) (splits nodes)) profiles whole
all-computed P mask w n m nodes {profiles} {fairs} {real} {whole} a b d v h =
    let M = temporals (splits nodes) in
    let h₁ = subst (λ (j : ℕ). Computed (masked w mask) n j nodes profiles fairs real whole) a h in
    let h₂ = subst (λ (j : ℕ). Computed (masked w mask) j M nodes profiles fairs real whole) (b ∙ ap (λ (j : ℕ). 2 ^ j) a) h₁ in
    let h₃ = subst (λ (j : ℕ). Computed (masked j mask) (2 ^ M) M nodes profiles fairs real whole) d h₂ in
    subst (λ (j : ℕ). TablesIn (2 ^ P) (2 ^ j) (tables_of (masked (2 ^ P) mask) (splits nodes)) profiles whole) (sym a) (tables-in (masked (2 ^ P) mask) nodes h₃ v)
