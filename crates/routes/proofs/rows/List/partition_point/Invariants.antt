-- The test tells true of what is below `low`, and false of what is from `high` on: seen of the nearest route on each side.
use Rattle.std.proofs.Common.{◌≡◌, ◌-◌, ◌<◌, ◌≤◌, true, false, length, get_or}
use Rattle.prefix.specs.Routes.{route_of, no_route}
use Rattle.routes.specs.Rows.{routes}
use Rattle.routes.proofs.rows.List.partition_point.Given as goal

abbrev pub invariant-loop-low : goal.invariant-loop-low
invariant-loop-low g l =
    (l.from ≤ l.low) × (l.high ≤ length (routes g.K.Key.words l.self.stride l.self.row.now))
    × (l.from ≤ length (routes g.K.Key.words l.self.stride l.self.row.now) → l.low ≤ l.high)
    × (l.from < l.low → (p : _) × (route_of (g.K.Key.num p.bits) p.len (get_or (routes g.K.Key.words l.self.stride l.self.row.now) (l.low - 1) no_route).hop ≡ get_or (routes g.K.Key.words l.self.stride l.self.row.now) (l.low - 1) no_route) × goal.F-post g l.is_left p true)
    × (l.high < length (routes g.K.Key.words l.self.stride l.self.row.now) → (p : _) × (route_of (g.K.Key.num p.bits) p.len (get_or (routes g.K.Key.words l.self.stride l.self.row.now) l.high no_route).hop ≡ get_or (routes g.K.Key.words l.self.stride l.self.row.now) l.high no_route) × goal.F-post g l.is_left p false)

abbrev pub decreases-loop-low : goal.decreases-loop-low
decreases-loop-low g l = l.high - l.low
