-- The two searches find the ends.
use Rattle.std.proofs.Common.{sym, arith}
use Rattle.prefix.specs.Words.{width}
use Rattle.prefix.specs.Routes.{beneath}
use Rattle.routes.specs.Rows.{routes}
use Rattle.beneath.specs.Parts.{End}
use Rattle.beneath.proofs.Together.{span_between}
use Rattle.beneath.proofs.parts.span_of.Goals as goal

pub returns : goal.returns
unfolding beneath
returns g c =
    let low = rw (c.over-list.ensures.row, c.over-list.ensures.stride) at c.lower_bound-from.ensures in
    let s = rw (c.over-list.ensures.row, c.over-list.ensures.stride) at c.partition_point-to.ensures in
    let end : End (width g.K.Key.words) (routes g.K.Key.words c.args.stride c.args.row.now) c.args.prefix.len (g.K.Key.num c.args.prefix.bits) c.lower_bound-from.result c.partition_point-to.result = record {
      after = s.low;
      within = s.high low.within;
      below = λ h. let t = s.left h in rw (← t.1) (sym t.2.1);
      beyond = λ h. let t = s.right h in rw (← t.1) (sym t.2.1);
    } in
    span_between g.K.Key.words c.args.stride c.args.row.now c.args.prefix.len (g.K.Key.num c.args.prefix.bits) _ c.lower_bound-from.result c.partition_point-to.result _ (omega arith) c.start_of.ensures.bits c.start_of.ensures.len low end
