-- The quotient of a machine by its groups: a state for each group, in the order of the groups' least states, as lists and as the monitor that they are.
use Rattle.std.specs.Prelude.{◌≡◌, ◌⊎◌, List, Bool, cond, ℕ, get_or, eqb}
use Rattle.sequences.specs.Tabulate.{tabulate, up_to}
use Rattle.meaning.specs.Traces.{Alphabet, Word}
use Rattle.meaning.specs.Monitors.{Monitor, follow, keep}
use Rattle.meaning.specs.declared.Verdict.{Verdict}
use Rattle.meaning.specs.declared.Verdict.TheVariants.{Undecided, Satisfied, Violated, Moot}
use Rattle.moore.specs.Counting.{count_below}
use Rattle.moore.specs.Grouping.{entry, machine, leads, together, all_events, grouping}

-- the least states of the groups, ascending
unfoldable pub leaders : ℕ → List ℕ → List ℕ
leaders n group = keep (leads group) (up_to n)

-- the least state of group q
unfoldable pub leader : ℕ → List ℕ → ℕ → ℕ
leader n group q = get_or (leaders n group) q 0

-- how many groups there are
unfoldable pub size : ℕ → List ℕ → ℕ
size n group = count_below n (leads group)

-- the number of the group of state i: how many groups have a lower least state
unfoldable pub number : List ℕ → ℕ → ℕ
number group i = count_below (get_or group i 0) (leads group)

-- every event leads from s back to its own group
unfoldable pub closed : Alphabet → List (List ℕ) → List ℕ → ℕ → Bool
closed Σ rows group s = all_events Σ (λ e. together group (entry rows s e) s)

-- the verdict byte of a group, by its class and by whether it is closed
abbrev pub verdict_byte : ℕ → Bool → ℕ
verdict_byte class shut = cond (eqb class 0) (cond shut 3 0) class

unfoldable pub verdicts : Alphabet → ℕ → List (List ℕ) → List ℕ → List ℕ → List ℕ
verdicts Σ n rows classes group =
    let least = leaders n group in
    tabulate (size n group) (λ q. verdict_byte (get_or classes (get_or least q 0) 0) (closed Σ rows group (get_or least q 0)))

-- 0 where an event cannot happen
unfoldable pub quotient_rows : Alphabet → ℕ → List (List ℕ) → List ℕ → List (List ℕ)
quotient_rows Σ n rows group =
    let least = leaders n group in
    let numbers = tabulate n (number group) in
    tabulate (size n group) (λ q. tabulate Σ.width (λ e. cond (Σ.possible e) (get_or numbers (entry rows (get_or least q 0) e) 0) 0))

abbrev pub quotient : Alphabet → ℕ → List (List ℕ) → List ℕ → List ℕ → Monitor
quotient Σ n rows classes group = machine (size n group) (quotient_rows Σ n rows group) (verdicts Σ n rows classes group)

-- the machine's smallest monitor
unfoldable pub reduced : Alphabet → ℕ → List (List ℕ) → List ℕ → Monitor
reduced Σ n rows classes = quotient Σ n rows classes (grouping Σ n rows classes)

-- ---- what a verdict of the quotient says of a state of the machine
-- a further word that brings a class other than 0
pub record Later (Σ : Alphabet) (n : ℕ) (rows : List (List ℕ)) (classes : List ℕ) (s : ℕ) : Type 0 where
  pub by : List ℕ
  pub word : Word Σ by
  pub brings : (get_or classes (follow (machine n rows classes) s by) 0 ≡ 1) ⊎ (get_or classes (follow (machine n rows classes) s by) 0 ≡ 2)

abbrev pub Says : Alphabet → ℕ → List (List ℕ) → List ℕ → ℕ → Verdict → Type 0
Says Σ n rows classes s Satisfied = get_or classes s 0 ≡ 1
Says Σ n rows classes s Violated = get_or classes s 0 ≡ 2
Says Σ n rows classes s Moot = (w : List ℕ) → Word Σ w → get_or classes (follow (machine n rows classes) s w) 0 ≡ 0
Says Σ n rows classes s Undecided = (get_or classes s 0 ≡ 0) × Later Σ n rows classes s
