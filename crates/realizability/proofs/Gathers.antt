-- Loops that gather sets by the component of a label.
use mathlib.Core.Path.{◌≡◌, refl, sym, ap, ◌∙◌, subst}
use mathlib.Core.Logic.{◌⊎◌, inl, inr}
use mathlib.Core.Bool.{Bool, true, false, ◌||◌}
use mathlib.Core.List.{List}
use Prim.Native.Nat.{ℕ, ◌+◌, ◌≤◌, ◌<◌}
use native.Mathlib.Numerals.{add-one}
use native.Mathlib.Decide.{ℕ_discrete}
use native.Mathlib.Omega.{arith}
use lib.ListN.{length, get_or, set, replicate, get_or-replicate}
use lib.Seq.{get_or-set_same, get_or-set_other}
use lib.Bits.{bit_or, or_zero_l}
use Rattle.std.proofs.lemmas.Nat.{or_comm}
use lib.Dec.{eqb}
use borrow.Author.Tests.{eq-eqb, ne_eqb}
use Rattle.meaning.specs.Traces.{masked}
use Rattle.ltl.specs.Sets.{on, union_below}
use Rattle.ltl.proofs.Sets.{on_or, same-members}
use Rattle.relations.specs.Relations.{only_if}
use Rattle.realizability.specs.Core.{within_component, Gathered, AllGathered}

or_assoc : (a b c : ℕ) → bit_or a (bit_or b c) ≡ bit_or (bit_or a b) c
or_assoc a b c =
    same-members (bit_or a (bit_or b c)) (bit_or (bit_or a b) c)
    (λ i.
    on_or a (bit_or b c) i ∙ ap (λ (t : Bool). on a i || t) (on_or b c i) ∙ assoc (on a i) (on b i) (on c i)
    ∙ sym (on_or (bit_or a b) c i ∙ ap (λ (t : Bool). t || on c i) (on_or a b i)))
  where
    assoc : (s t u : Bool) → (s || (t || u)) ≡ ((s || t) || u)
    assoc true t u = refl
    assoc false t u = refl

-- ---- one event

-- what an edge from x to y adds to the component of y: its set where x is in it too
pub adds-if : {of now : List ℕ} → now ≡ of → {x x' : ℕ} → x ≡ x' → (y set add : ℕ)
    → ((get_or now x 0 ≡ get_or now y 0) × (add ≡ set)) ⊎ ((get_or now x 0 ≡ get_or now y 0 → ⊥) × (add ≡ 0))
    → add ≡ only_if (eqb (get_or of x' 0) (get_or of y 0)) set
adds-if {now = now} p {x} q y set add (inl e) = rw (← p, ← q) (e.1 ∙ sym (ap (λ (t : Bool). only_if t set) (eq-eqb (get_or now x 0) (get_or now y 0) e.0)))
adds-if {now = now} p {x} q y set add (inr n) = rw (← p, ← q) (n.1 ∙ sym (ap (λ (t : Bool). only_if t set) (ne_eqb (get_or now x 0) (get_or now y 0) n.0)))

module _ (components : List ℕ) (before fair : ℕ → ℕ → ℕ) (e : ℕ) {j n : ℕ} {old m : List ℕ} (h : Gathered j n (within_component components before fair e) old m) (few : n ≤ 128) where
  module _ (p add : ℕ) (component : p ≡ get_or components j 0) (l : p < n) (adds : add ≡ only_if (eqb (get_or components (before e j) 0) p) (fair e j)) (long : length m ≡ 128) where
    abbrev f : ℕ → ℕ → ℕ
    f = within_component components before fair e

    abbrev new : List ℕ
    new = set m p (bit_or (get_or m p 0) add)

    adds-here : add ≡ f p j
    adds-here = adds ∙ sym (ap (λ (t : Bool). elim t [ true ↦ only_if (eqb (get_or components (before e j) 0) p) (fair e j) | false ↦ 0 ]) (eq-eqb (get_or components j 0) p (sym component)))

    adds-not : (q : ℕ) → (q ≡ p → ⊥) → f q j ≡ 0
    adds-not q n = ap (λ (t : Bool). elim t [ true ↦ only_if (eqb (get_or components (before e j) 0) q) (fair e j) | false ↦ 0 ]) (ne_eqb (get_or components j 0) q (λ g. n (sym g ∙ sym component)))

    here : get_or new p 0 ≡ bit_or (bit_or (f p j) (union_below j (f p))) (get_or old p 0)
    here =
        get_or-set_same m p (bit_or (get_or m p 0) add) 0 (omega arith) ∙ or_comm (get_or m p 0) add ∙ ap (bit_or add) (h.is p l)
        ∙ or_assoc add (union_below j (f p)) (get_or old p 0)
        ∙ ap (λ (A : ℕ). bit_or (bit_or A (union_below j (f p))) (get_or old p 0)) adds-here

    there : (q : ℕ) → q < n → (q ≡ p → ⊥) → get_or new q 0 ≡ bit_or (bit_or (f q j) (union_below j (f q))) (get_or old q 0)
    there q k d =
        get_or-set_other m p q (bit_or (get_or m p 0) add) 0 d ∙ h.is q k
        ∙ sym (ap (λ (A : ℕ). bit_or (bit_or A (union_below j (f q))) (get_or old q 0)) (adds-not q d)
        ∙ ap (λ (A : ℕ). bit_or A (get_or old q 0)) (or_zero_l (union_below j (f q))))

    pub gathered-more : Gathered (j + 1) n (within_component components before fair e) old new
    gathered-more = record {
      is = λ q k. go q k (ℕ_discrete q p) ∙ ap (λ (i : ℕ). bit_or (union_below i (f q)) (get_or old q 0)) (sym (add-one j));
    }
      where
        go : (q : ℕ) → q < n → Dec (q ≡ p) → get_or new q 0 ≡ bit_or (bit_or (f q j) (union_below j (f q))) (get_or old q 0)
        go q k (yes d) = subst (λ (i : ℕ). get_or new i 0 ≡ bit_or (bit_or (f i j) (union_below j (f i))) (get_or old i 0)) (sym d) here
        go q k (no d) = there q k d

-- ---- all events

pub all_none : (mask : ℕ) {n : ℕ} {f : ℕ → ℕ → ℕ → ℕ} → n ≤ 128 → AllGathered (masked 0 mask) n f (replicate 128 0)
all_none mask few = record { is = λ p h. get_or-replicate 128 p 0 0 (omega arith) }
