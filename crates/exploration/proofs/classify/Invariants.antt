-- `classify` meets its contract. The classes below s are stored.
use mathlib.Core.Path.{◌≡◌}
use Prim.Native.Nat.{ℕ, ◌<◌}
use lib.ListN.{length, get_or}
use Rattle.exploration.specs.Answers.{class_by}
use Rattle.exploration.proofs.classify.Given as goal

abbrev pub invariant-loop-s : goal.invariant-loop-s
invariant-loop-s l = (length l.classes ≡ 256) × ((k : ℕ) → k < l.s → get_or l.classes k 0 ≡ class_by l.full (get_or l.keys k 0))
