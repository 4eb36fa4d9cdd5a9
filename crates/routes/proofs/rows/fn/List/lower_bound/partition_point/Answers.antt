-- The hops do not matter to the order.
use Rattle.routes.proofs.rows.fn.List.lower_bound.partition_point.Goals as goal

pub returns : goal.returns
returns g c = c.is_before.ensures 0 0
