-- The demands of an answer are those of what it equals.
use mathlib.Core.Path.{◌≡◌, subst}
use mathlib.Core.List.{List}
use Prim.Native.Nat.{ℕ}
use Rattle.meaning.specs.RuleFiles.{judge}
use Rattle.building.specs.Build.{answer_of, output_after, Right}
use Rattle.std.proofs.Common.{Result}
use Rattle.meaning.specs.declared.Refusal.{Refusal}

pub right_by : (file out : List ℕ) {after : List ℕ} {r : Result ℕ Refusal} → r ≡ answer_of (judge file) out → after ≡ output_after (judge file) out → Right file out after r
    → Right file out after (answer_of (judge file) out)
right_by file out {after} e _ h = subst (λ (b : Result ℕ Refusal). Right file out after b) e h
