-- A row has room for the route's numbers.
use Rattle.std.proofs.Common.{rules}
use Rattle.routes.proofs.Slots.{inside}
use Rattle.routes.proofs.rows.slot_at.Goals as goal

pub overflow_mul-result : goal.overflow_mul-result
overflow_mul-result g c = let i = inside g.K.Key.words c.args.stride c.args.row.now c.args.k c.requires in search rules

pub overflow_add-result : goal.overflow_add-result
overflow_add-result g c = let i = inside g.K.Key.words c.args.stride c.args.row.now c.args.k c.requires in search rules

pub returns : goal.returns
returns g c = let i = inside g.K.Key.words c.args.stride c.args.row.now c.args.k c.requires in search rules
