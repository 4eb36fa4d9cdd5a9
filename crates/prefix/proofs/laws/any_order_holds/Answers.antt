-- The order of a good list does not matter.
use Rattle.prefix.proofs.Theorems.{any_order}
use Rattle.prefix.proofs.laws.any_order_holds.Goals as goal

pub returns : goal.returns
returns c = any_order
