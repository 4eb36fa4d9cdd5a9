-- There are fewer routes than numbers go round for.
use Rattle.std.proofs.Common.{arith}
use Rattle.routes.proofs.Lists.{length_routes}
use Rattle.routes.proofs.Slots.{count_room}
use Rattle.routes.proofs.iter.RoutesIterator.next.Goals as goal

pub overflow_add-self : goal.overflow_add-self
overflow_add-self g c =
    let n = length_routes g.K.Key.words c.args.self.now.list.stride c.args.self.now.list.row.now in
    let r = count_room g.K.Key.words c.args.self.now.list.stride c.args.self.now.list.row.now in
    let e = c.args.self.now.list.roomy in
    let f = c.args.self.now.list.low in
    let less = c.in_ok-route.ensures in
    record { fits = omega (arith, less.0) }
