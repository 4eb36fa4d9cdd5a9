-- The lines of the routes before k were written.
use Rattle.std.proofs.Common.{◌-◌, ◌≤◌}
use Rattle.std.specs.Fmt.{IsPlainFormatter, HasWritten}
use Rattle.routes.specs.Rows.{routes}
use Rattle.serve.specs.Replies.{lines, between}
use Rattle.serve.proofs.printing.write_routes.Given as goal

abbrev pub invariant-loop-k : goal.invariant-loop-k
invariant-loop-k g l =
    (l.from ≤ l.k) × (l.k - l.from ≤ l.to - l.from)
    × (IsPlainFormatter l.initial.f → HasWritten g.W.Write.write_str_gives l.initial.f (lines l.opening (between l.from l.k (routes 1 3 l.row))) l.f)
