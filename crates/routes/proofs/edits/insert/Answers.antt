-- The search says where the route stands or would, and the change is made there.
use Rattle.std.proofs.Common.{◌<◌, sym, refl, ap, ◌∙◌, arith}
use Rattle.prefix.specs.Routes.{Route, route_of}
use Rattle.routes.specs.Rows.{count_in}
use Rattle.routes.proofs.Slots.{count_room}
use Rattle.routes.proofs.Lists.{length_routes, getD_routes}
use Rattle.routes.proofs.Moves.{replaced}
use Rattle.routes.proofs.Keeps.{put_replaced, put_added}
use Rattle.routes.proofs.edits.insert.Goals as goal

pub replace_at-requires : goal.replace_at-requires
replace_at-requires g c = let n = length_routes g.K.Key.words c.args.stride c.args.row.now in let f = rw (c.over-list.ensures.row, c.over-list.ensures.stride) at c.in-Ok.ensures in omega (arith, f.within)

pub add_at-requires : goal.add_at-requires
add_at-requires g c =
    let n = length_routes g.K.Key.words c.args.stride c.args.row.now in
    let r = count_room g.K.Key.words c.args.stride c.args.row.now in
    let m = rw (c.over-list.ensures.row, c.over-list.ensures.stride) at c.in-Err.ensures in
    let e = rw (c.over-list.ensures.row, c.over-list.ensures.stride) at c.extent-count.ensures.count in
    let f = rw (c.over-list.ensures.row, c.over-list.ensures.stride) at c.extent-count.ensures.room in
    record { place = omega (arith, m.place.within); room = omega arith }

pub returns-in-Ok : goal.returns-in-Ok
returns-in-Ok g c =
    let f = rw (c.over-list.ensures.row, c.over-list.ensures.stride) at c.in-Ok.ensures in
    let n = length_routes g.K.Key.words c.args.stride c.args.row.now in
    let less : c.in-Ok.k < count_in g.K.Key.words c.args.stride c.args.row.now = omega (arith, f.within) in
    let r = replaced g.K.Key.words c.args.stride c.args.row.now c.replace_at.new.row c.in-Ok.k (route_of (g.K.Key.num c.args.prefix.bits) c.args.prefix.len c.args.hop) less f.is_bits f.is_len c.replace_at.ensures.after in
    let was = c.replace_at.ensures.was in
    record {
      says = (c.in-Ok.k, f, sym was, r);
      keeps = put_replaced _ _ _ c.in-Ok.k _ f r.list (ap (λ (x : Route). x.hop) (getD_routes g.K.Key.words c.args.stride c.args.row.now c.in-Ok.k less) ∙ sym was);
    }

pub returns-else-count-room : goal.returns-else-count-room
returns-else-count-room g c =
    let m = rw (c.over-list.ensures.row, c.over-list.ensures.stride) at c.in-Err.ensures in
    record { says = (c.in-Err.k, m, c.add_at.ensures); keeps = λ order. put_added _ _ c.in-Err.k m order _ c.add_at.ensures.list }
