-- The slots in which a round looks for states that it leaves together.
use Rattle.std.specs.Prelude.{◌≡◌, true, List, ℕ, zero, suc, ◌+◌, ◌-◌, ◌*◌, ◌%◌, ◌≤◌, ◌<◌, length, get_or}
use Rattle.sequences.specs.Tabulate.{least_below}
use Rattle.moore.specs.Grouping.{entry, same_step}
use Rattle.group_slots.specs.Groups.{unmasked}

-- s mixed with f 0, f 1, .., f (n - 1)
unfoldable pub mixed : ℕ → (ℕ → ℕ) → ℕ → ℕ
mixed zero f s = s
mixed (suc n) f s = (mixed n f s * 5 + f n) % 1024

-- the slot of state i, by its group and those of its first w successors
abbrev pub slot_of : ℕ → List (List ℕ) → List ℕ → ℕ → ℕ
slot_of w rows group i = mixed w (λ e. get_or group (entry rows i e) 0) (get_or group i 0 % 1024)

-- the slots have states before i, or 0, and the slot of each of these states but state 0 has one other than 0
pub record Slotted (i w : ℕ) (rows : List (List ℕ)) (group slots : List ℕ) : Type 0 where
  pub long : length slots ≡ 1024
  pub low : (s : ℕ) → s < 1024 → get_or slots s 0 ≤ i - 1
  pub met : (k : ℕ) → 0 < k → k < i → 0 < get_or slots (slot_of w rows group k) 0

-- j is a state before i, or 0, and not 0 if the round leaves any state before i but state 0 with i
pub record InSlot (i w : ℕ) (rows : List (List ℕ)) (group : List ℕ) (j : ℕ) : Type 0 where
  pub low : j ≤ i - 1
  pub met : (k : ℕ) → 0 < k → k < i → same_step (unmasked w) rows group k i ≡ true → 0 < j

-- next has for each state before i the least that the round leaves with it
pub record LeftBelow (i w : ℕ) (rows : List (List ℕ)) (group next : List ℕ) : Type 0 where
  pub left : (k : ℕ) → k < i → get_or next k 0 ≡ least_below k (λ j. same_step (unmasked w) rows group j k)
