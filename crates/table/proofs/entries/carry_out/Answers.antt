-- One change more.
use Rattle.std.proofs.lemmas.List.{take_more}
use Rattle.table.specs.declared.entries.Change.TheVariants.{Put}
use Rattle.table.proofs.Refusals.{carried_on}
use Rattle.table.proofs.entries.carry_out.Goals as goal

pub loop-change-preserved : goal.loop-change-preserved
loop-change-preserved c right =
    rw (take_more c.args.changes.now c.loop-change.change-index (Put 0 0 0) c.loop-change-test.true) (carried_on _ _ _ _ _ _ (c.loop-change.invariant right) c.apply.ensures)
