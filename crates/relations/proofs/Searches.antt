-- Searches for a number and tests of all of them, and unions over the same sets (specs/Sets of crate ltl).
use mathlib.Core.Path.{ap₂, ◌≡◌, refl, sym, subst}
use mathlib.Core.Bool.{Bool, true, false}
use Prim.Native.Nat.{zero, suc, ℕ, ◌<◌}
use native.Mathlib.Nat.{le_refl}
use native.Mathlib.Omega.{arith}
use lib.Dec.{T}
use lib.Bits.{bit_or}
use Rattle.sequences.proofs.Pointwise.{is_true, is_false}
use Rattle.meaning.specs.Traces.{Alphabet, Event}
use Rattle.ltl.specs.Sets.{some_below, every_below, union_below, some_event, union_events}
use Rattle.ltl.proofs.Searches.{→some, every→}

-- none passes so far
pub record NoneBelow (n : ℕ) (f : ℕ → Bool) : Type 0 where
  pub is : some_below n f ≡ false

pub some-found : (m : ℕ) (f : ℕ → Bool) (i : ℕ) → i < m → f i ≡ true → true ≡ some_below m f
some-found m f i h e = sym (is_true (some_below m f) (→some m f i h (subst T (sym e) tt)))

-- all pass so far
pub record AllBelow (n : ℕ) (f : ℕ → Bool) : Type 0 where
  pub is : every_below n f ≡ true

pub not-all : (m : ℕ) (f : ℕ → Bool) (i : ℕ) → i < m → f i ≡ false → false ≡ every_below m f
not-all m f i h e = sym (is_false (every_below m f) (λ t. subst T e (every→ m f t i h)))

-- ---- over the same tests, or the same sets

pub some_same : (n : ℕ) (f g : ℕ → Bool) → ((i : ℕ) → i < n → f i ≡ g i) → some_below n f ≡ some_below n g
some_same zero f g h = refl
some_same (suc n) f g h =
    ap₂ (λ (a b : Bool). elim a [ true ↦ true | false ↦ b ]) (h n (le_refl (suc n))) (some_same n f g (λ i l. h i (omega arith)))

pub union-same : (n : ℕ) (f g : ℕ → ℕ) → ((i : ℕ) → i < n → f i ≡ g i) → union_below n f ≡ union_below n g
union-same zero f g h = refl
union-same (suc n) f g h = ap₂ bit_or (h n (le_refl (suc n))) (union-same n f g (λ i l. h i (omega arith)))

-- a value that matters only where the test holds
only_same : {A : Type 0} (z : A) (b : Bool) {x y : A} → (T b → x ≡ y) → ◌≡◌ {A = A} (elim b [ true ↦ x | false ↦ z ]) (elim b [ true ↦ y | false ↦ z ])
only_same z true h = h tt
only_same z false h = refl

module _ (Σ : Alphabet) where
  pub some-event-same : (f g : ℕ → Bool) → ((e : ℕ) → Event Σ e → f e ≡ g e) → some_event Σ f ≡ some_event Σ g
  some-event-same f g h =
      some_same Σ.width (λ e. elim (Σ.possible e) [ true ↦ f e | false ↦ false ]) (λ e. elim (Σ.possible e) [ true ↦ g e | false ↦ false ])
      (λ e l. only_same false (Σ.possible e) (λ t. h e (l, t)))

  pub union-events-same : (f g : ℕ → ℕ) → ((e : ℕ) → Event Σ e → f e ≡ g e) → union_events Σ f ≡ union_events Σ g
  union-events-same f g h =
      union-same Σ.width (λ e. elim (Σ.possible e) [ true ↦ f e | false ↦ 0 ]) (λ e. elim (Σ.possible e) [ true ↦ g e | false ↦ 0 ])
      (λ e l. only_same 0 (Σ.possible e) (λ t. h e (l, t)))
