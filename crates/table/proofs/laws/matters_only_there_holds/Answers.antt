-- The theorem is in Theorems.
use Rattle.table.proofs.Theorems.{matters_only_there}
use Rattle.table.proofs.laws.matters_only_there_holds.Goals as goal

pub returns : goal.returns
returns c = matters_only_there
