-- The refusals in their order, and then what putting says.
use Rattle.std.proofs.Common.{refl, inl, inr}
use Rattle.table.proofs.Refusals.{fine, fine_route, says_at}
use Rattle.table.proofs.entries.put_entry.Goals as goal

pub returns-in-Ok : goal.returns-in-Ok
returns-in-Ok c =
    let good = c.in-Some.ensures in
    says_at _ 0 _ _ _ _ (fine c.args.bits c.args.long c.args.to good.0 c.if-to-gt-LAST_HOP.false)
    (λ right. inl (refl, rw (good.1, good.2) at (c.in-Ok.ensures right (fine_route _ _ c.args.bits c.args.long c.args.to good.1 good.2 good.0 c.if-to-gt-LAST_HOP.false))))

pub returns-in-Err : goal.returns-in-Err
returns-in-Err c =
    let good = c.in-Some.ensures in
    says_at _ 0 _ _ _ _ (fine c.args.bits c.args.long c.args.to good.0 c.if-to-gt-LAST_HOP.false)
    (λ right. inr (refl, rw (good.1, good.2) at (c.in-Err.ensures right (fine_route _ _ c.args.bits c.args.long c.args.to good.1 good.2 good.0 c.if-to-gt-LAST_HOP.false))))
