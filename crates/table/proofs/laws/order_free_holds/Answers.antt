-- The theorem is in Theorems.
use Rattle.table.proofs.Theorems.{order_free}
use Rattle.table.proofs.laws.order_free_holds.Goals as goal

pub returns : goal.returns
returns c = order_free
