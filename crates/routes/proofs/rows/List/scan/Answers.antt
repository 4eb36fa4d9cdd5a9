-- One more route gone through.
use Rattle.std.proofs.Common.{sym, refl, ap, ◌∙◌}
use Rattle.prefix.specs.Words.{width}
use Rattle.prefix.specs.Routes.{best, answer}
use Rattle.routes.specs.Bests.{long_of, hop_of}
use Rattle.routes.proofs.Turns.{best_more}
use Rattle.routes.proofs.rows.List.scan.Goals as goal

pub loop-prefix-init : goal.loop-prefix-init
unfolding answer
loop-prefix-init g c = rw (c.into_iter-prefix-iterator.ensures.into_iter_gives, c.iter-prefix-items.ensures) refl

pub loop-prefix-preserved : goal.loop-prefix-preserved
loop-prefix-preserved g c =
    let step = ap (λ rs. best (width g.K.Key.words) rs (g.K.Key.num c.args.key) (long_of c.loop-prefix.best) (hop_of c.loop-prefix.best)) c.in-Some.ensures.steps in
    sym (best_more (width g.K.Key.words) _ _ (g.K.Key.num c.args.key) _ _ _ _ c.longer-best.ensures.long c.longer-best.ensures.hop) ∙ sym step ∙ c.loop-prefix.invariant

pub returns-in_err-best : goal.returns-in_err-best
unfolding best
returns-in_err-best g c =
    let end = ap (λ rs. best (width g.K.Key.words) rs (g.K.Key.num c.args.key) (long_of c.loop-prefix.best) (hop_of c.loop-prefix.best)) c.in-None.ensures.steps.0 in
    rw c.from_residual.ensures (ap hop_of (sym c.in_err-best.was) ∙ sym end ∙ c.loop-prefix.invariant)

pub returns : goal.returns
unfolding best
returns g c =
    let end = ap (λ rs. best (width g.K.Key.words) rs (g.K.Key.num c.args.key) (long_of c.loop-prefix.best) (hop_of c.loop-prefix.best)) c.in-None.ensures.steps.0 in
    ap hop_of (sym c.in_ok-best.was) ∙ sym end ∙ c.loop-prefix.invariant
