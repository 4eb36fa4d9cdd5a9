-- Each turn writes one line more.
use Rattle.std.proofs.Common.{ℕ, ◌≤◌, List, ◌++◌, sym, refl, ap, ◌∙◌, subst, arith}
use Rattle.std.specs.Fmt.{HasWritten}
use Rattle.prefix.specs.Routes.{Route}
use Rattle.routes.specs.Rows.{routes}
use Rattle.serve.specs.Replies.{route_line, lines, between}
use Rattle.serve.proofs.Lines.{lines_none, lines_more}
use Rattle.serve.proofs.Writes.{put_none, put_then}
use Rattle.serve.proofs.printing.write_routes.Goals as goal

pub loop-k-init : goal.loop-k-init
loop-k-init g c =
    (omega arith, omega arith, λ plain. subst (λ (l : List ℕ). HasWritten g.W.Write.write_str_gives c.args.f.now l c.args.f.now) (sym (lines_none c.args.opening.now (routes 1 3 c.args.row.now) c.args.from)) (put_none g.W.Write.write_str_gives c.args.f.now plain))

pub loop-k-preserved : goal.loop-k-preserved
loop-k-preserved g c =
    let rs = routes 1 3 c.args.row.now in
    let opening = c.args.opening.now in
    let held = rw (c.over-list.ensures.row, c.over-list.ensures.stride) at c.in-Some.ensures in
    let from : c.args.from ≤ c.loop-k.k = c.loop-k.invariant.0 in
    let line = ap (λ (r : Route). lines opening (between c.args.from c.loop-k.k rs) ++ route_line opening r) (sym held.1) in
    let more = lines_more opening rs c.args.from c.loop-k.k from held.0 in (
      omega arith,
      omega arith,
      λ plain.
          let before = c.loop-k.invariant.2 plain in
          subst (λ (l : List ℕ). HasWritten g.W.Write.write_str_gives c.args.f.now l c.write_route.new.f) (sym (more ∙ line)) (put_then g.W.Write.write_str_gives c.args.f.now c.loop-k.f c.write_route.new.f _ _ before (c.in_ok-write_route.ensures before.plain refl)),
    )
