-- The theorem is in Theorems.
use Rattle.table.proofs.Theorems.{undone_by_inverse}
use Rattle.table.proofs.laws.undone_by_inverse_holds.Goals as goal

pub returns : goal.returns
returns c = undone_by_inverse
