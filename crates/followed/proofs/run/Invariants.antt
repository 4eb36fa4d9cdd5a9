-- The table is right before every file.
use Rattle.std.proofs.Common.{vec_items}
use Rattle.table.specs.Right.{Right}
use Rattle.followed.proofs.run.Given as goal

abbrev pub invariant-loop-name : goal.invariant-loop-name
invariant-loop-name l = (goal.iterator-loop-name).can_next l.name-iterator × (goal.iterator-loop-name).is_finite l.name-iterator × Right 1 (vec_items l.row)
