-- How a row of numbers holds a route list: for whoever reads the row. The row begins with how many routes there are and for how many there is room; then each route takes `stride` numbers, of which the first are the words of its bits, its length and its hop, and what is behind these is carried along. Assumes nothing: these are definitions.
use Rattle.std.specs.Prelude.{ℕ, suc, ◌+◌, ◌*◌, Bool, cond, ◌&&◌, List, map, length, nat_le, slice_index}
use Rattle.std.specs.List.{range_with_len}
use Rattle.prefix.specs.Words.{loaded}
use Rattle.prefix.specs.Routes.{Route, route_of}

-- where route k begins
abbrev pub slot : (stride k : ℕ) → ℕ
slot stride k = 2 + stride * k

-- route k, whether or not there are so many
abbrev pub route_at : (words stride : ℕ) → List ℕ → (k : ℕ) → Route
route_at words stride row k =
    route_of (loaded words row (slot stride k)) (slice_index row (slot stride k + words)) (slice_index row (slot stride k + (words + 1)))

-- the row is a list's: a route finds place in its stride, the room in the row, and the routes in the room
abbrev pub listing : (words stride : ℕ) → List ℕ → Bool
listing words stride row =
    nat_le (words + 2) stride && (nat_le (slot stride (slice_index row 1)) (length row) && nat_le (slice_index row 0) (slice_index row 1))

-- how many routes a row holds: none, where it is no list's
abbrev pub count_in : (words stride : ℕ) → List ℕ → ℕ
count_in words stride row = cond (listing words stride row) (slice_index row 0) 0

-- for how many it has room
abbrev pub room_in : (words stride : ℕ) → List ℕ → ℕ
room_in words stride row = cond (listing words stride row) (slice_index row 1) 0

-- the routes of a row, in their order
unfoldable pub routes : (words stride : ℕ) → List ℕ → List Route
routes words stride row = map (route_at words stride row) (range_with_len 0 (count_in words stride row))
