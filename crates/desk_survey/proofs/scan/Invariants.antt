-- `desk_survey::scan` meets its contract. The loop's invariant: the pass over the watches that are left comes to what the whole pass comes to.
use Rattle.std.proofs.Common.{◌≡◌, length, min}
use Rattle.desk_tasks.specs.declared.Task.{Task}
use Rattle.desk_tasks.specs.Tasks.{pass_over}
use Rattle.desk_survey.proofs.scan.Given as goal

abbrev pub invariant-loop-number : goal.invariant-loop-number
invariant-loop-number l = ◌≡◌ {A = Task} (pass_over l.desk l.number l.s) (pass_over l.desk (min l.fn.task.upto (length l.desk)) l.fn.task)
