-- The theorem is in Means.
use Rattle.table.proofs.Means.{right_means}
use Rattle.table.proofs.laws.right_means_holds.Goals as goal

pub returns : goal.returns
returns c = right_means
