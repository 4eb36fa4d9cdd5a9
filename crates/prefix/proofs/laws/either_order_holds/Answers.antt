-- Two prefixes can be put in either order.
use Rattle.prefix.proofs.Theorems.{either_order}
use Rattle.prefix.proofs.laws.either_order_holds.Goals as goal

pub returns : goal.returns
returns c = either_order
