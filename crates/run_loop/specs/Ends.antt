-- Where a run ends.
use Rattle.std.specs.Prelude.{List, Bool, cond, ℕ}
use Rattle.meaning.specs.TableFiles.{monitor_in}
use Rattle.meaning.specs.Runs.{on_table, tested, end_of}
use Rattle.std.specs.Prelude.{Result, Option, Some, None}
use Rattle.meaning.specs.declared.Arrival.{Arrival}
use Rattle.meaning.specs.declared.Refusal.{Refusal}

-- the count so far, and whether the state after n events shows a verdict other than undecided
abbrev pub noted_of : Option ℕ → Bool → ℕ → Option ℕ
noted_of (Some k) b n = Some k
noted_of None b n = cond b (Some n) None

-- the answer of a run that starts
abbrev pub end_in : List ℕ → ℕ → ℕ → ℕ → List ℕ → Result (Arrival ℕ) Refusal
end_in t P S s es = tested (on_table t P S s es) (end_of (monitor_in t P S) s es)
