-- The list of a row, route by route. Assumes nothing.
use Rattle.std.proofs.Common.{◌≡◌, ℕ, ◌+◌, ◌<◌, List, length, get_or, ap, arith}
use Rattle.std.proofs.lemmas.List.FromFn.{length-map-range_with_len, get_or-map-range_with_len}
use Rattle.prefix.specs.Words.{loaded}
use Rattle.prefix.specs.Routes.{Route, route_of, no_route}
use Rattle.routes.specs.Rows.{slot, route_at, count_in, routes}

pub length_routes : (words stride : ℕ) (row : List ℕ) → length (routes words stride row) ≡ count_in words stride row
unfolding routes
length_routes words stride row = length-map-range_with_len (route_at words stride row) 0 (count_in words stride row)

pub getD_routes : (words stride : ℕ) (row : List ℕ) (k : ℕ) → k < count_in words stride row → get_or (routes words stride row) k no_route ≡ route_at words stride row k
unfolding routes
getD_routes words stride row k h = get_or-map-range_with_len (route_at words stride row) 0 (count_in words stride row) k k no_route h (omega arith)

-- what was read at a route's place is the route
pub read_as : (words stride : ℕ) (row : List ℕ) (k bits len hop : ℕ) → k < count_in words stride row → bits ≡ loaded words row (slot stride k) → len ≡ get_or row (slot stride k + words) 0
    → hop ≡ get_or row (slot stride k + (words + 1)) 0 → route_of bits len hop ≡ get_or (routes words stride row) k no_route
read_as words stride row k bits len hop h b l n = let e = getD_routes words stride row k h in cc

-- what was read of a prefix at a route's place is the route's
pub read_prefix : (words stride : ℕ) (row : List ℕ) (k bits len : ℕ) → k < count_in words stride row → bits ≡ loaded words row (slot stride k) → len ≡ get_or row (slot stride k + words) 0
    → route_of bits len (get_or (routes words stride row) k no_route).hop ≡ get_or (routes words stride row) k no_route
read_prefix words stride row k bits len h b l = read_as words stride row k bits len _ h b l (ap (λ (r : Route). r.hop) (getD_routes words stride row k h))
