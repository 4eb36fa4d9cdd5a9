-- A route that is there is read as the list has it.
use Rattle.std.proofs.Common.{◌<◌, arith}
use Rattle.routes.specs.Rows.{count_in}
use Rattle.routes.proofs.Lists.{length_routes, read_as}
use Rattle.routes.proofs.rows.List.route.Goals as goal

pub returns-then-k-self : goal.returns-then-k-self
returns-then-k-self g c =
    let n = length_routes g.K.Key.words c.args.self.now.stride c.args.self.now.row.now in
    let e = c.args.self.now.counted in
    omega arith

pub returns : goal.returns
returns g c =
    let n = length_routes g.K.Key.words c.args.self.now.stride c.args.self.now.row.now in
    let e = c.args.self.now.counted in
    let less : c.args.k < count_in g.K.Key.words c.args.self.now.stride c.args.self.now.row.now = omega arith in
    (omega arith, read_as g.K.Key.words c.args.self.now.stride c.args.self.now.row.now c.args.k _ _ _ less c.prefix_at.ensures.bits c.prefix_at.ensures.len c.hop_at.ensures)
