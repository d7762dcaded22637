-- Laws of the loops that make the machine of the groups: where each begins, after a turn, and at its end.
use mathlib.Core.Path.{◌≡◌, refl, sym, ap, ◌∙◌, subst}
use mathlib.Core.Bool.{Bool, true, false, not, cond}
use mathlib.Core.List.{List, ◌++◌}
use Prim.Native.Nat.{ℕ, suc, ◌+◌, ◌<◌}
use native.Mathlib.Numerals.{add-one}
use Rattle.std.proofs.Common.{add-zero}
use mir.Val.{bool_byte}
use native.Mathlib.Decide.{dec_lt}
use native.Mathlib.Omega.{arith}
use lib.ListN.{length, get_or, set, drop, replicate}
use lib.Seq.{get_or-set_same, get_or-set_other}
use borrow.Author.Tests.{ne_eqb}
use Rattle.sequences.specs.Tabulate.{tabulate, up_to}
use Rattle.sequences.proofs.Loops.{Filled, filled-to, length-tab}
use Rattle.meaning.specs.Traces.{Alphabet}
use Rattle.meaning.specs.Monitors.{keep}
use Rattle.moore.specs.Counting.{count_below}
use Rattle.moore.specs.Grouping.{leads}
use Rattle.moore.specs.Quotient.{leaders, leader, size, closed}
use Rattle.moore.proofs.Counting.{count-lt, standing}
use Rattle.grouping.specs.Machines.{Leaders, verdict_at}
use Rattle.grouping.specs.Reduction.{padded}

-- ---- numbers
pub count-step : (p : ℕ → Bool) (i q x : ℕ) (b : Bool) → q ≡ count_below i p → b ≡ p i → x ≡ bool_byte b → q + x ≡ count_below (i + 1) p
count-step p i q x b e h k = rw (add-one i) (ap (λ (y : ℕ). q + y) k ∙ go b ∙ ap (λ (b : Bool). cond b (suc q) q) h ∙ ap (λ (y : ℕ). cond (p i) (suc y) y) e)
  where
    go : (b : Bool) → q + bool_byte b ≡ cond b (suc q) q
    go true = add-one q
    go false = add-zero q

-- those of the first i that pass stand each at its count: the invariant of a loop that lists what passes
pub record Listed (i : ℕ) (p : ℕ → Bool) (s : List ℕ) : Type 0 where
  pub at : (j : ℕ) → j < i → p j ≡ true → get_or s (count_below j p) 0 ≡ j

pub listed-none : {p : ℕ → Bool} {s : List ℕ} → Listed 0 p s
listed-none = record { at = λ j l. absurd (omega arith) }

pub listed_more : (i q : ℕ) (p : ℕ → Bool) (s : List ℕ) → Listed i p s → q ≡ count_below i p → q < length s → Listed (i + 1) p (set s q i)
listed_more i q p s h e l = record { at = λ j m t. go j m t (dec_lt j i) }
  where
    go : (j : ℕ) → j < i + 1 → p j ≡ true → Dec (j < i) → get_or (set s q i) (count_below j p) 0 ≡ j
    go j m t (yes g) = let x : count_below j p < count_below i p = count-lt j i p g t in get_or-set_other s q (count_below j p) i 0 (λ z. omega arith) ∙ h.at j g t
    go j m t (no g) = let x : j ≡ i = omega arith in ap (λ (k : ℕ). get_or (set s q i) (count_below k p) 0) x ∙ ap (λ (k : ℕ). get_or (set s q i) k 0) (sym e) ∙ get_or-set_same s q i 0 l ∙ sym x

pub listed-end : (n i r : ℕ) (group s : List ℕ) → Listed i (leads group) s → i ≡ n → r ≡ count_below i (leads group) → Leaders n group r s
unfolding size leader leaders
listed-end n i r group s h e c = record {
  count = sum;
  at = λ q l. let t = standing n (leads group) q (subst (λ (x : ℕ). q < x) sum l) in let j = get_or (keep (leads group) (up_to n)) q 0 in sym (ap (λ (x : ℕ). get_or s x 0) t.count) ∙ h.at j (subst (λ (x : ℕ). j < x) (sym e) t.below) t.passes;
}
  where
    sum : r ≡ count_below n (leads group)
    sum = c ∙ ap (λ (x : ℕ). count_below x (leads group)) e

-- ---- events that can happen
-- an event that leads back to its own group
pub back_is : (can back : Bool) → back ≡ true → true ≡ cond can back true
back_is true back h = sym h
back_is false back h = refl

-- and one that does not: it counts if it can happen
pub away-is : (can back r : Bool) → back ≡ false → r ≡ can → not r ≡ cond can back true
away-is can back true h e = rw (← e) (sym h)
away-is can back false h e = rw (← e)

-- ---- verdicts and rows
module _ (Σ : Alphabet) (rows : List (List ℕ)) (classes group : List ℕ) (s : ℕ) where
  pub verdict-of-class : (get_or classes s 0 ≡ 0 → ⊥) → get_or classes s 0 ≡ verdict_at Σ rows classes group s
  unfolding verdict_at
  verdict-of-class h = rw (ne_eqb (get_or classes s 0) 0 h)

  pub verdict-of-none : (b : Bool) → get_or classes s 0 ≡ 0 → b ≡ closed Σ rows group s → cond b 3 0 ≡ verdict_at Σ rows classes group s
  unfolding verdict_at
  verdict-of-none b h e = rw (e, h)

pub row-filled : (w : ℕ) {i : ℕ} {f : ℕ → ℕ} {row : List ℕ} → Filled i f (replicate 16 0) row → i ≡ w → row ≡ padded (tabulate w f)
row-filled w {f = f} h e = filled-to w h e ∙ ap (λ (k : ℕ). tabulate w f ++ drop k (replicate 16 0)) (sym (length-tab w f))
