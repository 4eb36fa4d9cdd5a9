-- What is still to be compared makes of the counts so far what all of it makes of those at first.
use Rattle.std.proofs.Common.{◌≡◌, drop}
use Rattle.table.specs.Right.{Right}
use Rattle.trials.specs.Compare.{compared}
use Rattle.trials.proofs.compare.compare_at.Given as goal

abbrev pub invariant-loop-address : goal.invariant-loop-address
invariant-loop-address l =
    (compared l.row (drop l.address-index l.addresses) l.counts ≡ compared l.row l.addresses l.initial.counts)
    × (Right 1 l.row → l.counts.differences ≡ l.initial.counts.differences)
