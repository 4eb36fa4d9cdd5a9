-- Replies of several lines: the routes, and then how many they are.
use Rattle.std.proofs.Common.{ℕ, ◌++◌, codes, decimal as figures, refl, subst}
use Rattle.std.specs.Fmt.{HasWritten}
use Rattle.serve.proofs.Writes.{put_then}
use Rattle.serve.proofs.printing.PrintedDisplay.fmt.Goals as goal

pub returns-in_ok-write_routes-in-Beneath-clause-writes : goal.returns-in_ok-write_routes-in-Beneath-clause-writes
returns-in_ok-write_routes-in-Beneath-clause-writes g c plain ok =
    let before = c.in_ok-write_routes-in-Beneath.ensures plain refl in
    let after = subst (λ (n : ℕ). HasWritten g.W.Write.write_str_gives c.write_routes.new.f (figures n ++ codes " beneath") c.write-in-Beneath.new.self) c.saturating_sub-count.ensures (c.write-in-Beneath.ensures.writes before.plain ok) in
    rw c.in-Beneath.is (put_then g.W.Write.write_str_gives c.args.f.now c.write_routes.new.f c.write-in-Beneath.new.self _ _ before after)

pub returns-in_ok-write_routes-in-Listed-clause-writes : goal.returns-in_ok-write_routes-in-Listed-clause-writes
returns-in_ok-write_routes-in-Listed-clause-writes g c plain ok =
    let before = c.in_ok-write_routes-in-Listed.ensures plain refl in
    rw c.in-Listed.is (put_then g.W.Write.write_str_gives c.args.f.now c.write_routes-in-Listed.new.f c.write-in-Listed.new.self _ _ before (c.write-in-Listed.ensures.writes before.plain ok))

pub returns-in-Help-clause-writes : goal.returns-in-Help-clause-writes
returns-in-Help-clause-writes g c plain ok = rw c.in-Help.is (c.write-in-Help.ensures.writes plain ok)
