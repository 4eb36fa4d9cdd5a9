-- The route at the lower bound has the prefix, or, in a list in order, none has.
use Rattle.std.proofs.Common.{sym, refl, arith}
use Rattle.routes.proofs.Lists.{length_routes, read_as}
use Rattle.routes.proofs.Order.{found, missing}
use Rattle.routes.proofs.rows.List.find.Goals as goal
use Rattle.routes.proofs.rows.List.find.Goals.{else-k-extent-via-then-k-extent+else-is_same, else-k-extent-via-else-k-extent}

pub returns-then-is_same : goal.returns-then-is_same
returns-then-is_same g c =
    let n = length_routes g.K.Key.words c.args.self.now.stride c.args.self.now.row.now in
    let read = read_as g.K.Key.words c.args.self.now.stride c.args.self.now.row.now c.lower_bound-k.result _ _ _ (omega arith) c.prefix_at.ensures.bits c.prefix_at.ensures.len refl in
    found _ _ _ _ (omega arith) (rw (← read) (sym (c.if-is_same.ensures _ 0)))

pub returns : goal.returns
returns g c =
    let n = length_routes g.K.Key.words c.args.self.now.stride c.args.self.now.row.now in
    missing _ _ _ _ c.lower_bound-k.ensures
    (λ h. elim c.else-k-extent.branch [
      | else-k-extent-via-then-k-extent+else-is_same w ↦
          (let read = read_as g.K.Key.words c.args.self.now.stride c.args.self.now.row.now c.lower_bound-k.result _ _ _ (omega arith) w.prefix_at.ensures.bits w.prefix_at.ensures.len refl in
          rw (← read) (sym (w.if-is_same.ensures _ 0)))
      | else-k-extent-via-else-k-extent w ↦ absurd (omega (arith, w.if-k-extent.false))
    ])
