-- `desk_tasks::look` meets its contract: of the four ways past the first two tests, each.
use Rattle.std.proofs.Common.{rules}
use Rattle.desk_tasks.proofs.look.Goals as goal
use Rattle.desk_tasks.proofs.look.Goals.{then-foreign, else-foreign, then-wrong, else-wrong}

pub returns-then-s-number : goal.returns-then-s-number
returns-then-s-number c = elim c.if-foreign.branch [
  | then-foreign v ↦ elim c.if-wrong.branch [ then-wrong w ↦ search rules | else-wrong w ↦ search rules ]
  | else-foreign v ↦ elim c.if-wrong.branch [ then-wrong w ↦ search rules | else-wrong w ↦ search rules ]
]

pub returns-else-s-number : goal.returns-else-s-number
returns-else-s-number c = elim c.if-foreign.branch [
  | then-foreign v ↦ elim c.if-wrong.branch [ then-wrong w ↦ search rules | else-wrong w ↦ search rules ]
  | else-foreign v ↦ elim c.if-wrong.branch [ then-wrong w ↦ search rules | else-wrong w ↦ search rules ]
]
