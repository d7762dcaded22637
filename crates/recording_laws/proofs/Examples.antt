-- Recordings of document 01's P12, "after a dose, no second dose until the valve has acknowledged", worked by hand: signal 0 is a dose, signal 1 an acknowledgement.
use mathlib.Core.Path.{◌≡◌, refl}
use mathlib.Core.List.{List, [], ◌∷◌, ◌++◌, map}
use Prim.Native.Nat.{ℕ}
use Rattle.meaning.specs.Recordings.{completions, all_end, judged_of}
use Rattle.meaning.specs.TableFiles.{is_table}
use Rattle.meaning.specs.declared.Verdict.TheVariants.{Undecided, Violated}
use Rattle.meaning.specs.declared.Refusal.TheVariants.{WrongEvent, WrongRecordings, Contradiction}
use Rattle.std.proofs.Common.{Result, Ok, Err}
use Rattle.meaning.specs.declared.Verdict.{Verdict}
use Rattle.meaning.specs.declared.Refusal.{Refusal}

abbrev row : ℕ → ℕ → ℕ → ℕ → ℕ → List ℕ
row v a b c d = 11 ∷ 0 ∷ 1 ∷ 2 ∷ v ∷ a ∷ 0 ∷ b ∷ 0 ∷ c ∷ 0 ∷ d ∷ 0 ∷ []

-- "3 states; rows 0 1 0 1, then 1 2 0 1, then violated"
abbrev pub second_dose : List ℕ
second_dose = (5 ∷ 0 ∷ 0 ∷ 2 ∷ 2 ∷ 3 ∷ 0 ∷ []) ++ row 0 0 1 0 1 ++ row 0 1 2 0 1 ++ row 2 2 2 2 2

-- what the controller recorded, what the valve block recorded, and what is answered
pub record Case : Type 0 where
  pub controller : List ℕ
  pub valves : List ℕ
  pub answer : Result Verdict Refusal

abbrev pub cases : List Case
cases =
    -- two doses, and the valve block saw no acknowledgement: each recording alone leaves it open, both together do not
    record { controller = 1 ∷ 1 ∷ 1 ∷ 1 ∷ []; valves = 2 ∷ 0 ∷ 2 ∷ 0 ∷ []; answer = Ok Violated }
    ∷ record { controller = 1 ∷ 1 ∷ 1 ∷ 1 ∷ []; valves = 0 ∷ 0 ∷ 0 ∷ 0 ∷ []; answer = Ok Undecided }
    ∷ record { controller = 0 ∷ 0 ∷ 0 ∷ 0 ∷ []; valves = 2 ∷ 0 ∷ 2 ∷ 0 ∷ []; answer = Ok Undecided }
    -- an acknowledgement with the first dose does not matter, so that gap is no loss
    ∷ record { controller = 1 ∷ 1 ∷ 1 ∷ 1 ∷ []; valves = 0 ∷ 0 ∷ 2 ∷ 0 ∷ []; answer = Ok Violated }
    -- nothing was recorded
    ∷ record { controller = []; valves = []; answer = Ok Undecided }
    -- both know of the second dose, and differ
    ∷ record { controller = 1 ∷ 1 ∷ 1 ∷ 1 ∷ []; valves = 2 ∷ 0 ∷ 3 ∷ 0 ∷ []; answer = Err (Contradiction 1) }
    -- there is no signal 2; a value of a signal that is unknown; an odd length
    ∷ record { controller = 1 ∷ 1 ∷ []; valves = 4 ∷ 0 ∷ []; answer = Err (WrongEvent 0) }
    ∷ record { controller = 1 ∷ 1 ∷ 1 ∷ 2 ∷ []; valves = 2 ∷ 0 ∷ 2 ∷ 0 ∷ []; answer = Err (WrongEvent 1) }
    ∷ record { controller = 1 ∷ []; valves = 2 ∷ []; answer = Err WrongRecordings }
    ∷ []

pub worked : map (λ (c : Case). judged_of second_dose c.controller c.valves) cases ≡ map (λ (c : Case). c.answer) cases
unfolding judged_of is_table completions all_end
worked = refl
