-- The table is right before every line.
use Rattle.std.proofs.Common.{vec_items}
use Rattle.table.specs.Right.{Right}
use Rattle.jeghrumo.proofs.run.Given as goal

abbrev pub invariant-loop-number : goal.invariant-loop-number
invariant-loop-number l = Right 1 (vec_items l.row)
