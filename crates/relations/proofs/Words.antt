-- A relation in words: row x is the word x, of 128 bits.
use mathlib.Core.Path.{◌≡◌, refl, sym, ap, ◌∙◌}
use mathlib.Core.Bool.{Bool, true, false, ◌||◌}
use mathlib.Core.List.{List}
use Prim.Native.Nat.{ℕ, ◌^◌, ◌<◌}
use native.Mathlib.Decide.{ℕ_discrete}
use native.Mathlib.Omega.{arith}
use lib.ListN.{length, get_or, set, length-set}
use lib.Seq.{get_or-set_same, get_or-set_other}
use lib.Bits.{bit_or}
use Rattle.sequences.proofs.Pointwise.{is_true, is_false}
use Rattle.ltl.specs.Sets.{on}
use Rattle.ltl.proofs.Sets.{on-zero, on_or, single-in, in-single}
use Rattle.relations.specs.Relations.{entry, MarkedAt, only_if, RowPassed}

or-true : (a : Bool) → (a || true) ≡ true
or-true true = refl
or-true false = refl

or-false : (a : Bool) → (a || false) ≡ a
or-false true = refl
or-false false = refl

-- ---- a pair added

module _ (m : List ℕ) (x y word : ℕ) (within : x < length m) (is : word ≡ 2 ^ y) where
  abbrev with : List ℕ
  with = set m x (bit_or (get_or m x 0) word)

  in_row : (z : ℕ) → entry with x z ≡ (entry m x z || on word z)
  in_row z = ap (λ (A : ℕ). on A z) (get_or-set_same m x (bit_or (get_or m x 0) word) 0 within) ∙ on_or (get_or m x 0) word z

  bit-here : on word y ≡ true
  bit-here = ap (λ (A : ℕ). on A y) is ∙ is_true (on (2 ^ y) y) (single-in y)

  bit-else : (z : ℕ) → (z ≡ y → ⊥) → on word z ≡ false
  bit-else z n = ap (λ (A : ℕ). on A z) is ∙ is_false (on (2 ^ y) z) (λ t. n (in-single y z t))

  other : (v z : ℕ) → (v ≡ x → ⊥) → entry with v z ≡ entry m v z
  other v z n = ap (λ (A : ℕ). on A z) (get_or-set_other m x v (bit_or (get_or m x 0) word) 0 n)

  pub marked-at : MarkedAt x y m with
  marked-at = record {
    there = in_row y ∙ ap (λ (b : Bool). entry m x y || b) bit-here ∙ or-true (entry m x y);
    row_else = other;
    column_else = λ v z n. go v z n (ℕ_discrete v x);
  }
    where
      go : (v z : ℕ) → (z ≡ y → ⊥) → Dec (v ≡ x) → entry with v z ≡ entry m v z
      go v z n (yes e) = rw e (in_row z ∙ ap (λ (b : Bool). entry m x z || b) (bit-else z n) ∙ or-false (entry m x z))
      go v z n (no e) = other v z e

-- ---- a row joined

joined-if : (test : Bool) (A w o i : ℕ) → A ≡ only_if test w → on (bit_or o A) i ≡ elim test [ true ↦ on w i || on o i | false ↦ on o i ]
joined-if test A w o i e = on_or o A i ∙ ap (λ (A : ℕ). on o i || on A i) e ∙ go test
  where
    or-comm : (a b : Bool) → (a || b) ≡ (b || a)
    or-comm true true = refl
    or-comm true false = refl
    or-comm false true = refl
    or-comm false false = refl

    go : (test : Bool) → (on o i || on (only_if test w) i) ≡ elim test [ true ↦ on w i || on o i | false ↦ on o i ]
    go true = or-comm (on o i) (on w i)
    go false = ap (λ (b : Bool). on o i || b) (on-zero i) ∙ or-false (on o i)

pub row-passed : {test : Bool} {w x A : ℕ} {m : List ℕ} → length m ≡ 128 → x < 128 → A ≡ only_if test w → RowPassed test w x m (set m x (bit_or (get_or m x 0) A))
row-passed {test} {w} {x} {A} {m} long l e = record {
  long = length-set m x (bit_or (get_or m x 0) A) ∙ long;
  row = λ y. ap (λ (B : ℕ). on B y) (get_or-set_same m x (bit_or (get_or m x 0) A) 0 (omega arith)) ∙ joined-if test A w (get_or m x 0) y e;
  others = λ v y n. ap (λ (B : ℕ). on B y) (get_or-set_other m x v (bit_or (get_or m x 0) A) 0 n);
}

-- the row is as it was where the test fails
pub row-kept : {test : Bool} {w x : ℕ} {m : List ℕ} → length m ≡ 128 → test ≡ false → RowPassed test w x m m
row-kept {test} {w} {x} {m} long e = record {
  long = long;
  row = λ y. ap (λ (t : Bool). elim t [ true ↦ on w y || entry m x y | false ↦ entry m x y ]) (sym e);
  others = λ v y n. refl;
}
