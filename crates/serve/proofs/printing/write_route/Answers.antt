-- A route's line.
use Rattle.std.proofs.Common.{rules}
use Rattle.serve.specs.Replies.{route_line}
use Rattle.serve.proofs.printing.write_route.Goals as goal

pub returns : goal.returns
unfolding route_line
returns g c = search rules
