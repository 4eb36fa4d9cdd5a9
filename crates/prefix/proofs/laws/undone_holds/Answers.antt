-- A prefix put back as it was held leaves the answers as they were.
use Rattle.prefix.proofs.Theorems.{undone}
use Rattle.prefix.proofs.laws.undone_holds.Goals as goal

pub returns : goal.returns
returns c = undone
