-- The search says where the route stands, and its hop is read there.
use Rattle.std.proofs.Common.{suc, ◌<◌, sym, ap, ◌∙◌, arith}
use Rattle.prefix.specs.Routes.{Route}
use Rattle.routes.specs.Rows.{count_in}
use Rattle.routes.proofs.Lists.{length_routes, getD_routes}
use Rattle.routes.proofs.Order.{found_there}
use Rattle.routes.proofs.rows.List.get.Goals as goal

pub hop_at-requires : goal.hop_at-requires
hop_at-requires g c =
    let n = length_routes g.K.Key.words c.args.self.now.stride c.args.self.now.row.now in
    let e = c.args.self.now.counted in
    let f = found_there _ _ _ c.find.result c.find.ensures c.in_ok-k.k c.in_ok-k.ensures.value in
    omega (arith, f.within)

pub returns : goal.returns
returns g c =
    let f = found_there _ _ _ c.find.result c.find.ensures c.in_ok-k.k c.in_ok-k.ensures.value in
    let n = length_routes g.K.Key.words c.args.self.now.stride c.args.self.now.row.now in
    let less : c.in_ok-k.k < count_in g.K.Key.words c.args.self.now.stride c.args.self.now.row.now = omega (arith, f.within) in
    let hop = ap (λ (x : Route). x.hop) (getD_routes g.K.Key.words c.args.self.now.stride c.args.self.now.row.now c.in_ok-k.k less) ∙ sym c.hop_at.ensures in
    record { says = (c.in_ok-k.k, f, hop); held = λ order. sym (f.held_there order ∙ ap suc hop) }
