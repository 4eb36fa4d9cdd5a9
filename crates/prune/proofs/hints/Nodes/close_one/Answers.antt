-- The last node was free, or is moved to a free number.
use Rattle.std.proofs.Common.{length, refl, arith}
use Rattle.prune.proofs.Holes.{closed_free, closed_moved}
use Rattle.prune.proofs.hints.Nodes.close_one.Goals as goal

pub returns-in-Some-clause-closed : goal.returns-in-Some-clause-closed
returns-in-Some-clause-closed c w m h =
    let at = c.in-Some.ensures in
    closed_free c.args.self.now.count c.args.free.now (length c.args.free.now) c.in-Some.at at.0 (omega arith) at.1 h

pub returns-clause-closed : goal.returns-clause-closed
returns-clause-closed c w m h =
    let at = c.smallest-at.ensures.place in
    closed_moved c.args.self.now.count c.args.free.now (length c.args.free.now) c.smallest-at.result at (omega arith) c.if-hole-last.false h.differ
    (c.in_ok-move_last.ensures.moved w m h.loose (λ u. u.off c.smallest-at.result at refl)
    record { below = omega arith; off = λ p l. c.in_default.ensures p l })
