-- Laws of the loops of a round: where each begins, after a turn, and at its end.
use mathlib.Core.Path.{◌≡◌, refl, sym, ap, ◌∙◌, subst}
use mathlib.Core.Bool.{Bool, true, false, cond, ◌&&◌}
use mathlib.Core.List.{List, [], ◌∷◌, ◌++◌}
use Prim.Native.Nat.{ℕ, zero, suc, ◌≤◌, ◌<◌}
use native.Mathlib.Nat.{le_of_suc-le-suc}
use lib.Dec.{eqb}
use lib.ListN.{length}
use Rattle.std.proofs.Common.{nat_eq}
use Rattle.std.specs.Cmp.Lexicographic.{pointwise}
use native.Mathlib.Omega.{arith}
use lib.ListN.{get_or, take, drop}
use lib.Seq.{take_at, get_or-take, get_or-append-add, get_or-drop}
use Rattle.sequences.specs.Tabulate.{tabulate, least_below}
use Rattle.sequences.proofs.Loops.{Filled, filled-to, length-tab, get_d-tab}
use Rattle.sequences.proofs.Pigeonhole.{least-below}
use Rattle.meaning.specs.Traces.{Alphabet}
use Rattle.moore.specs.Grouping.{together, same_step, first_groups, next_groups, same_below}
use Rattle.group_slots.specs.Groups.{Least}

-- ---- a list that a loop filled
module _ {A : Type 0} where
  pub filled-take : (n : ℕ) {i : ℕ} {f : ℕ → A} {d s : List A} → Filled i f d s → i ≡ n → take n s ≡ tabulate n f
  filled-take n {f = f} {d} h e = ap (take n) (filled-to n h e) ∙ take_at (tabulate n f) (drop n d) n (length-tab n f)

  pub taken_at : (n : ℕ) (s : List A) (f : ℕ → A) → take n s ≡ tabulate n f → (i : ℕ) (z : A) → i < n → get_or s i z ≡ f i
  taken_at n s f h i z l = sym (get_or-take n s i z l) ∙ ap (λ (t : List A). get_or t i z) h ∙ get_d-tab n f i z l

  -- element n is not reached yet
  pub filled_next : {n : ℕ} {f : ℕ → A} {d s : List A} (z : A) → Filled n f d s → get_or s n z ≡ get_or d n z
  filled_next {n} {f} {d} z h =
      ap (λ (t : List A). get_or t n z) h.is
      ∙ ap (λ (k : ℕ). get_or (tabulate n f ++ drop n d) k z) (omega (arith, length-tab n f))
      ∙ get_or-append-add (tabulate n f) (drop n d) 0 z
      ∙ get_or-drop n d 0 z
      ∙ ap (λ (k : ℕ). get_or d k z) (omega arith)

-- two lists whose first n elements are compared
and_cond : (b r : Bool) → (b && r) ≡ cond b r false
and_cond true r = refl
and_cond false r = refl

pointwise_same : (n : ℕ) (a b : List ℕ) → n ≤ length a → n ≤ length b → pointwise nat_eq (take n a) (take n b) ≡ same_below n a b
pointwise_same zero a b l m = refl
pointwise_same (suc n) [] b l m = absurd (omega arith)
pointwise_same (suc n) (x ∷ a) [] l m = absurd (omega arith)
pointwise_same (suc n) (x ∷ a) (y ∷ b) l m =
    and_cond (eqb x y) (pointwise nat_eq (take n a) (take n b)) ∙ ap (λ (r : Bool). cond (eqb x y) r false) (pointwise_same n a b (le_of_suc-le-suc l) (le_of_suc-le-suc m))

pub same-taken : (n : ℕ) (a b : List ℕ) (r : Bool) → n ≤ length a → n ≤ length b → r ≡ pointwise nat_eq (take n a) (take n b) → r ≡ same_below n a b
same-taken n a b r l m h = h ∙ pointwise_same n a b l m

-- ---- the names of groups
least-le : (n : ℕ) (p : ℕ → Bool) → least_below n p ≤ n
least-le n p = (least-below n p).bound

pub next-least : (Σ : Alphabet) (n : ℕ) (rows : List (List ℕ)) (group next : List ℕ) → take n next ≡ next_groups Σ n rows group → Least n next
unfolding next_groups
next-least Σ n rows group next h = record { least = λ i l. subst (λ (x : ℕ). x ≤ i) (sym (taken_at n next (λ i. least_below i (λ j. same_step Σ rows group j i)) h i 0 l)) (least-le i (λ j. same_step Σ rows group j i)) }

pub first-least : (n : ℕ) (classes first : List ℕ) → take n first ≡ first_groups n classes → Least n first
unfolding first_groups
first-least n classes first h = record { least = λ i l. subst (λ (x : ℕ). x ≤ i) (sym (taken_at n first (λ i. least_below i (λ j. together classes j i)) h i 0 l)) (least-le i (λ j. together classes j i)) }
