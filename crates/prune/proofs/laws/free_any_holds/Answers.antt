-- What stands in free nodes may be anything.
use Rattle.prune.proofs.Between.{free_any}
use Rattle.prune.proofs.laws.free_any_holds.Goals as goal

pub returns : goal.returns
returns c = free_any
