-- Laws of the slots of a round: states that the round leaves together have the same slot, and the least that it leaves with them.
use mathlib.Core.Path.{◌≡◌, refl, sym, ap, ap₂, ◌∙◌, subst}
use mathlib.Core.Logic.{inl, inr}
use mathlib.Core.Bool.{true, false}
use mathlib.Core.List.{List}
use Prim.Native.Nat.{ℕ, zero, suc, ◌+◌, ◌*◌, ◌%◌, ◌≤◌, ◌<◌}
use native.Mathlib.Numerals.{add-one}
use native.Mathlib.Decide.{ℕ_discrete}
use native.Mathlib.Omega.{arith}
use lib.ListN.{get_or, set, length-set, drop, replicate, length-replicate, get_or-replicate, get_or-append}
use lib.Seq.{get_or-set_same, get_or-set_other}
use Rattle.sequences.specs.Tabulate.{tabulate, least_below}
use Rattle.sequences.proofs.Loops.{Filled, length-tab, get_d-tab, Missed, missed-end}
use Rattle.moore.specs.Grouping.{entry, same_step}
use Rattle.moore.proofs.Tests.{bool_cases, same_name}
use Rattle.moore.proofs.Grouping.{step→, step-equivalence}
use Rattle.group_slots.specs.Groups.{unmasked}
use Rattle.group_slots.specs.Slots.{mixed, slot_of, Slotted, InSlot, LeftBelow}

-- ---- mixing
pub mixed-none : (f : ℕ → ℕ) (s t : ℕ) → t ≡ s → t ≡ mixed 0 f s
unfolding mixed
mixed-none f s t e = e

pub mixed-more : (n : ℕ) (f : ℕ → ℕ) (s t x : ℕ) → t ≡ mixed n f s → x ≡ f n → (t * 5 + x) % 1024 ≡ mixed (n + 1) f s
unfolding mixed
mixed-more n f s t x e h = rw add-one (ap₂ (λ (t x : ℕ). (t * 5 + x) % 1024) e h)

mixed-same : (n : ℕ) (f g : ℕ → ℕ) (s : ℕ) → ((e : ℕ) → e < n → f e ≡ g e) → mixed n f s ≡ mixed n g s
unfolding mixed
mixed-same zero f g s h = refl
mixed-same (suc n) f g s h = ap₂ (λ (t x : ℕ). (t * 5 + x) % 1024) (mixed-same n f g s (λ e l. h e (omega arith))) (h n (omega arith))

-- ---- a round
module _ (w : ℕ) (rows : List (List ℕ)) (group : List ℕ) where
  slot_same : (j i : ℕ) → same_step (unmasked w) rows group j i ≡ true → slot_of w rows group j ≡ slot_of w rows group i
  slot_same j i h =
      let p = step→ (unmasked w) rows group j i h in
      ap (λ (s : ℕ). mixed w (λ e. get_or group (entry rows j e) 0) (s % 1024)) p.here
      ∙ mixed-same w (λ e. get_or group (entry rows j e) 0) (λ e. get_or group (entry rows i e) 0) (get_or group i 0 % 1024) (λ e l. p.then e (l, tt))

  -- no state before i is left with i: those but state 0 would be in the slot
  pub left-none : (i j : ℕ) → InSlot i w rows group j → j ≡ 0 → same_step (unmasked w) rows group j i ≡ false → i ≡ least_below i (λ k. same_step (unmasked w) rows group k i)
  left-none i j h z n = sym (missed-end none i refl)
    where
      other : (k : ℕ) → k < i → Dec (k ≡ 0) → same_step (unmasked w) rows group k i ≡ false
      other k m (yes e) = subst (λ (x : ℕ). same_step (unmasked w) rows group x i ≡ false) (z ∙ sym e) n
      other k m (no e) = elim (bool_cases (same_step (unmasked w) rows group k i)) [ inl t ↦ (let x = h.met k (omega arith) m t in absurd (omega arith)) | inr f ↦ f ]

      none : Missed i (λ k. same_step (unmasked w) rows group k i)
      none = record { none = λ k m. other k m (ℕ_discrete k 0) }

  -- j is left with i
  pub left-same : (i j : ℕ) (next : List ℕ) → LeftBelow i w rows group next → j < i → same_step (unmasked w) rows group j i ≡ true
      → get_or next j 0 ≡ least_below i (λ k. same_step (unmasked w) rows group k i)
  left-same i j next h l e = h.left j l ∙ same_name (step-equivalence (unmasked w) rows group) j i e

  -- what the slot of i has
  pub in-slot : (i s j : ℕ) (slots : List ℕ) → Slotted i w rows group slots → s ≡ slot_of w rows group i → s < 1024 → j ≡ get_or slots s 0 → InSlot i w rows group j
  in-slot i s j slots h e l q = record {
    low = omega (arith, h.low s l);
    met = λ k o m t. subst (λ (x : ℕ). 0 < x) (ap (λ (x : ℕ). get_or slots x 0) (slot_same k i t ∙ sym e) ∙ sym q) (h.met k o m);
  }

  pub left_below : (i : ℕ) {d next : List ℕ} → Filled i (λ k. least_below k (λ j. same_step (unmasked w) rows group j k)) d next → LeftBelow i w rows group next
  left_below i {d} {next} h = record {
    left = λ k l.
        ap (λ (t : List ℕ). get_or t k 0) h.is
        ∙ get_or-append (tabulate i f) (drop i d) 0 k (subst (λ (x : ℕ). k < x) (sym (length-tab i f)) l)
        ∙ get_d-tab i f k 0 l;
  }
    where
      f : ℕ → ℕ
      f k = least_below k (λ j. same_step (unmasked w) rows group j k)

  -- ---- the slots
  pub slotted-none : (slots : List ℕ) → slots ≡ replicate 1024 0 → Slotted 0 w rows group slots
  slotted-none slots e = subst (λ (s : List ℕ). Slotted 0 w rows group s) (sym e) (record { long = length-replicate {A = ℕ} 1024 0; low = λ s l. omega (arith, get_or-replicate {A = ℕ} 1024 s 0 0 l); met = λ k o l. absurd (omega arith) })

  pub slotted-more : (i s : ℕ) (slots : List ℕ) → Slotted i w rows group slots → s ≡ slot_of w rows group i → s < 1024 → Slotted (i + 1) w rows group (set slots s i)
  slotted-more i s slots h e l = record {
    long = length-set slots s i ∙ h.long;
    low = λ x m. let y = low x m (ℕ_discrete x s) in omega arith;
    met = λ k o m. met k o m (ℕ_discrete (slot_of w rows group k) s) (ℕ_discrete k i);
  }
    where
      here : get_or (set slots s i) s 0 ≡ i
      here = get_or-set_same slots s i 0 (omega (arith, h.long))

      low : (x : ℕ) → x < 1024 → Dec (x ≡ s) → get_or (set slots s i) x 0 ≤ i
      low x m (yes q) = let y = ap (λ (x : ℕ). get_or (set slots s i) x 0) q ∙ here in omega arith
      low x m (no q) = let y = get_or-set_other slots s x i 0 q in let z = h.low x m in omega arith

      met : (k : ℕ) → 0 < k → k < i + 1 → Dec (slot_of w rows group k ≡ s) → Dec (k ≡ i) → 0 < get_or (set slots s i) (slot_of w rows group k) 0
      met k o m (yes q) d = let y = ap (λ (x : ℕ). get_or (set slots s i) x 0) q ∙ here in omega arith
      met k o m (no q) (yes r) = absurd (q (ap (slot_of w rows group) r ∙ sym e))
      met k o m (no q) (no r) = let y = get_or-set_other slots s (slot_of w rows group k) i 0 q in let z = h.met k o (omega arith) in omega arith
