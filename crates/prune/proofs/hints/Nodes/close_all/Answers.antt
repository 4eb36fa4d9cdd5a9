-- Turn by turn one node and one free number less.
use Rattle.std.proofs.Common.{◌-◌, ◌∙◌, arith}
use Rattle.prune.proofs.Holes.{turn, closed}
use Rattle.prune.proofs.hints.Nodes.close_all.Goals as goal

pub loop-others-preserved : goal.loop-others-preserved
loop-others-preserved c = (
  c.close_one.ensures.lent ∙ c.loop-others.invariant.0,
  omega (arith, c.close_one.ensures.count),
  λ w m h.
      let t = turn c.loop-others.self.count c.loop-others.others (c.loop-others.others - 1) c.loop-others.free c.close_one.new.free
      (omega arith) (omega arith) c.close_one.auto.free (c.in_ok-close_one.ensures.closed w m) (c.loop-others.invariant.2 w m h) in
      rw c.close_one.ensures.count t,
)

pub returns-clause-closed : goal.returns-clause-closed
returns-clause-closed c = (omega arith, λ w m h. closed c.loop-others.self.count c.loop-others.free c.loop-others.others (omega arith) c.loop-others.self.long (c.loop-others.invariant.2 w m h))
