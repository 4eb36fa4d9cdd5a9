-- A right table is right after each change, with the routes that the changes so far make of its list.
use Rattle.std.proofs.Common.{take}
use Rattle.table.specs.Right.{Right}
use Rattle.table.specs.Entries.{CarriedOut}
use Rattle.table.proofs.entries.carry_out.Given as goal

abbrev pub invariant-loop-change : goal.invariant-loop-change
invariant-loop-change l = Right 1 l.initial.table → CarriedOut l.initial.table l.table (take l.change-index l.changes)
