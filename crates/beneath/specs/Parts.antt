-- The part of a row in which the routes beneath a prefix stand. Assumes nothing: these are definitions.
use Rattle.std.specs.Prelude.{◌≡◌, ℕ, ◌+◌, ◌-◌, ◌*◌, ◌<◌, ◌≤◌, true, false, ◌&&◌, List, length, take, drop, nat_le, nat_lt, slice_index_or}
use Rattle.prefix.specs.Words.{width}
use Rattle.prefix.specs.Routes.{Route, good, beneath, no_route, InOrder}
use Rattle.routes.specs.Rows.{slot, routes}

-- routes of the row, from one place to before another: none where the length is more than a key's; of a good list in order, just the routes beneath the prefix
pub record SpanSays (words stride : ℕ) (row : List ℕ) (len bits from to : ℕ) : Type 0 where
  pub after : from ≤ to
  pub within : to ≤ length (routes words stride row)
  pub too_long : width words < len → from ≡ to
  pub just : len ≤ width words → good (width words) (routes words stride row) ≡ true → InOrder (routes words stride row)
      → (i : ℕ) → i < length (routes words stride row) → beneath (width words) len bits (slice_index_or (routes words stride row) i no_route) ≡ (nat_le from i && nat_lt i to)

-- the part is what the routes of such a span take of the row, whatever the row
pub record PartTaken (words stride : ℕ) (row : List ℕ) (len bits : ℕ) (part : List ℕ) : Type 0 where
  pub from : ℕ
  pub to : ℕ
  pub span : SpanSays words stride row len bits from to
  pub lent : part ≡ take (stride * (to - from)) (drop (slot stride from) row)

-- the routes beneath a prefix are those from one place on, so many; the part is what they take of the row
pub record Part (words stride : ℕ) (row : List ℕ) (len bits : ℕ) (part : List ℕ) : Type 0 where
  pub from : ℕ
  pub count : ℕ
  pub within : from + count ≤ length (routes words stride row)
  pub lent : part ≡ take (stride * count) (drop (slot stride from) row)
  pub just : (i : ℕ) → i < length (routes words stride row) → beneath (width words) len bits (slice_index_or (routes words stride row) i no_route) ≡ (nat_le from i && nat_lt i (from + count))

-- nothing lies beneath what is longer than a key; of a good list in order, just the routes beneath the prefix
pub record PartSays (words stride : ℕ) (row : List ℕ) (len bits : ℕ) (part : List ℕ) : Type 0 where
  pub too_long : width words < len → length part ≡ 0
  pub lends : len ≤ width words → good (width words) (routes words stride row) ≡ true → InOrder (routes words stride row) → Part words stride row len bits part

-- a place where the routes beneath a prefix end, seen of the nearest route on each side
pub record End (w : ℕ) (rs : List Route) (len bits from to : ℕ) : Type 0 where
  pub after : from ≤ to
  pub within : to ≤ length rs
  pub below : from < to → beneath w len bits (slice_index_or rs (to - 1) no_route) ≡ true
  pub beyond : to < length rs → beneath w len bits (slice_index_or rs to no_route) ≡ false
