-- Four routes and three keys, worked out.
use Rattle.prefix.proofs.Theorems.{worked}
use Rattle.prefix.proofs.laws.worked_holds.Goals as goal

pub returns : goal.returns
returns c = worked
