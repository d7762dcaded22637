-- The residual system of a list of nodes over any alphabet, and of a rule.
use mathlib.Core.Path.{◌≡◌, ap, ap₂, ◌∙◌, subst}
use mathlib.Core.Logic.{◌↔◌}
use mathlib.Core.List.{List, []}
use Prim.Native.Nat.{ℕ, ◌-◌, ◌^◌, ◌<◌}
use lib.ListN.{length, get_or, length-map}
use lib.Dec.{T, eqb, eqb→eq, eqb_refl}
use Rattle.sequences.specs.Tabulate.{tabulate}
use Rattle.sequences.proofs.Loops.{get_d-tab}
use Rattle.meaning.specs.Traces.{Alphabet, Event, Word}
use Rattle.meaning.specs.Formulas.{Formula, Holds}
use Rattle.meaning.specs.Verdicts.{Property, NoneSatisfies, AllSatisfy, SameResidual}
use Rattle.meaning.specs.RuleFiles.{Rule, formulas, alphabet_of, property_of}
use Rattle.meaning.specs.declared.Node.{Node}
use Rattle.residuals.specs.System.{System, key_after}
use Rattle.ltl.specs.Nodes.{Split, split, splits, temporals}
use Rattle.ltl.specs.Valuation.{Valued, valued, profile_of}
use Rattle.ltl.specs.Keys.{Tables, look, table_of, tables_of, start_key, step_key, empty_key, full_key}
use Rattle.ltl.proofs.Truth.{iff-trans}
use Rattle.ltl.proofs.Nodes.{split-formulas}
use Rattle.ltl.proofs.Tables.{Tabulates}
use Rattle.ltl.proofs.Profiles.{root}
use Rattle.ltl.proofs.Residuals.{Means, key-means, same-iff, empty-iff, whole-iff}

look_is : (Σ : Alphabet) (ns : List Split) (n : ℕ) (f : Valued → ℕ) (e y : ℕ) → Event Σ e → y < n → look (table_of Σ ns n f) e y ≡ f (valued e y ns)
look_is Σ ns n f e y h l =
    ap (λ (r : List ℕ). get_or r y 0) (get_d-tab Σ.width (λ e. tabulate n (λ y. f (valued e y ns))) e [] h.0)
    ∙ get_d-tab n (λ y. f (valued e y ns)) y 0 l

-- the tables that are made hold what they must
pub made-tabulates : (Σ : Alphabet) (ns : List Split)
    → Tabulates Σ ns (look (table_of Σ ns (2 ^ temporals ns) profile_of)) (look (table_of Σ ns (2 ^ temporals ns) (λ v. v.fairs)))
made-tabulates Σ ns = record {
  profile-is = look_is Σ ns (2 ^ temporals ns) profile_of;
  fair-is = look_is Σ ns (2 ^ temporals ns) (λ v. v.fairs);
}

eqb-iff : (a b : ℕ) → T (eqb a b) ↔ (a ≡ b)
eqb-iff a b = (eqb→eq a b, λ e. subst (λ (c : ℕ). T (eqb a c)) e (eqb_refl a))

-- "The last node is the rule."
abbrev pub last_formula : List Node → Formula
last_formula ns = get_or (formulas [] ns) (length ns - 1) Formula.falsum

abbrev pub last_property : List Node → Property
last_property ns ρ = Holds ρ 0 (last_formula ns)

pub root_is : (ns : List Node) → root (splits ns) ≡ last_formula ns
root_is ns = ap₂ (λ (fs : List Formula) (k : ℕ). get_or fs (k - 1) Formula.falsum) (split-formulas [] ns) (length-map ns split)

module _ (Σ : Alphabet) (ns : List Node) where
  abbrev pub key_of : List ℕ → ℕ
  key_of w = key_after (step_key (tables_of Σ (splits ns))) (start_key (tables_of Σ (splits ns))) w

  means : (w : List ℕ) → Word Σ w → Means (made-tabulates Σ (splits ns)) (key_of w) w
  unfolding tables_of
  means w p = key-means (made-tabulates Σ (splits ns)) w p

  pub same_key : (u v : List ℕ) → Word Σ u → Word Σ v → T (eqb (key_of u) (key_of v)) ↔ SameResidual Σ (last_property ns) u v
  same_key u v p q =
      subst (λ (f : Formula). T (eqb (key_of u) (key_of v)) ↔ SameResidual Σ (λ ρ. Holds ρ 0 f) u v) (root_is ns)
      (iff-trans (eqb-iff (key_of u) (key_of v)) (same-iff (made-tabulates Σ (splits ns)) (key_of u) (key_of v) u v (means u p) (means v q)))

  pub empty-key : (w : List ℕ) → Word Σ w → T (empty_key (key_of w)) ↔ NoneSatisfies Σ (last_property ns) w
  empty-key w p =
      subst (λ (f : Formula). T (empty_key (key_of w)) ↔ NoneSatisfies Σ (λ ρ. Holds ρ 0 f) w) (root_is ns)
      (iff-trans (eqb-iff (key_of w) 0) (empty-iff (made-tabulates Σ (splits ns)) (key_of w) w (means w p)))

  pub full-key : (w : List ℕ) → Word Σ w → T (full_key (tables_of Σ (splits ns)) (key_of w)) ↔ AllSatisfy Σ (last_property ns) w
  unfolding tables_of
  full-key w p =
      subst (λ (f : Formula). T (full_key (tables_of Σ (splits ns)) (key_of w)) ↔ AllSatisfy Σ (λ ρ. Holds ρ 0 f) w) (root_is ns)
      (iff-trans (eqb-iff (key_of w) (tables_of Σ (splits ns)).whole) (whole-iff (made-tabulates Σ (splits ns)) (key_of w) w (means w p)))

  -- over any alphabet; the tables are made once
  unfoldable pub nodes_system : System Σ (last_property ns)
  nodes_system =
      let t : Tables = tables_of Σ (splits ns) in
      record {
        Key = ℕ;
        start = start_key t;
        step = λ A e. step_key t A e;
        same = eqb;
        empty = empty_key;
        full = λ A. full_key t A;
        same_is = same_key;
        empty_is = empty-key;
        full_is = full-key;
      }

unfoldable pub ltl_system : (r : Rule) → System (alphabet_of r) (property_of r)
unfolding property_of
ltl_system r = nodes_system (alphabet_of r) r.nodes
