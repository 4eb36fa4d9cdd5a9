-- The search says where the route stands, and it is taken out there.
use Rattle.std.proofs.Common.{◌<◌, sym, ap, ◌∙◌, arith}
use Rattle.prefix.specs.Routes.{Route}
use Rattle.routes.specs.Rows.{count_in}
use Rattle.routes.proofs.Lists.{length_routes, getD_routes}
use Rattle.routes.proofs.Order.{found_there, missing_there}
use Rattle.routes.proofs.Keeps.{away_found, away_missing}
use Rattle.routes.proofs.edits.remove.Goals as goal

pub take_at-requires : goal.take_at-requires
take_at-requires g c = let n = length_routes g.K.Key.words c.args.stride c.args.row.now in let f = rw (c.over.ensures.row, c.over.ensures.stride) at (found_there _ _ _ c.find.result c.find.ensures c.in_ok-k.k c.in_ok-k.ensures.value) in omega (arith, f.within)

pub returns : goal.returns
returns g c =
    let f = rw (c.over.ensures.row, c.over.ensures.stride) at (found_there _ _ _ c.find.result c.find.ensures c.in_ok-k.k c.in_ok-k.ensures.value) in
    let n = length_routes g.K.Key.words c.args.stride c.args.row.now in
    let less : c.in_ok-k.k < count_in g.K.Key.words c.args.stride c.args.row.now = omega (arith, f.within) in
    let was = c.take_at.ensures.was in
    record {
      says = (c.in_ok-k.k, f, sym was, c.take_at.ensures.after);
      keeps = away_found _ _ _ _ c.in_ok-k.k _ f c.take_at.ensures.after.list (ap (λ (x : Route). x.hop) (getD_routes g.K.Key.words c.args.stride c.args.row.now c.in_ok-k.k less) ∙ sym was);
    }

pub returns-in_err-k-clause-keeps : goal.returns-in_err-k-clause-keeps
returns-in_err-k-clause-keeps g c =
    let said = rw (c.over.ensures.row, c.over.ensures.stride) at c.find.ensures in
    let m = missing_there _ _ _ c.find.result said (sym c.ok.ensures.value ∙ c.in_err-k.was) in
    rw c.from_residual.ensures (away_missing _ _ _ _ m.1)
