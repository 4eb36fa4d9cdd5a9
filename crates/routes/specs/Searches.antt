-- What the searches of a route list find, in any list, in order or not. Assumes nothing: these are definitions.
use Rattle.std.specs.Prelude.{◌≡◌, ℕ, suc, ◌-◌, ◌<◌, ◌≤◌, Bool, true, false, List, length, get_or, Some, None, Ok, Err, Option, Result, slice_index_or}
use Rattle.prefix.specs.Routes.{Route, route_of, before, no_route, same_prefix, held, InOrder}

-- a place between what comes before a prefix and what does not. In a list in order there is just one such place
pub record Boundary (rs : List Route) (bits len k : ℕ) : Type 0 where
  pub within : k ≤ length rs
  pub below : 0 < k → before (slice_index_or rs (k - 1) no_route) (route_of bits len 0) ≡ true
  pub from : k < length rs → before (slice_index_or rs k no_route) (route_of bits len 0) ≡ false

-- a place, from one on, between routes of which a test tells true and such of which it tells false: seen of the nearest on each side
pub record Parts (rs : List Route) (from k : ℕ) (Tells : Route → Bool → Type 0) : Type 0 where
  pub low : from ≤ k
  pub high : from ≤ length rs → k ≤ length rs
  pub left : from < k → Tells (slice_index_or rs (k - 1) no_route) true
  pub right : k < length rs → Tells (slice_index_or rs k no_route) false

-- route k has the prefix; in a list in order it is what the list holds of it
pub record Found (rs : List Route) (bits len k : ℕ) : Type 0 where
  pub within : k < length rs
  pub is_bits : (get_or rs k no_route).bits ≡ bits
  pub is_len : (get_or rs k no_route).len ≡ len
  pub held_there : InOrder rs → held len bits rs ≡ suc (get_or rs k no_route).hop

-- route k, where the prefix would stand, has not the prefix; in a list in order none has
pub record Missing (rs : List Route) (bits len k : ℕ) : Type 0 where
  pub place : Boundary rs bits len k
  pub other : k < length rs → same_prefix (slice_index_or rs k no_route) (route_of bits len 0) ≡ false
  pub none : InOrder rs → held len bits rs ≡ 0

-- an exact search answers where the prefix stands, or where it would
abbrev pub SearchSays : List Route → (bits len : ℕ) → Result ℕ ℕ → Type 0
SearchSays rs bits len (Ok k) = Found rs bits len k
SearchSays rs bits len (Err k) = Missing rs bits len k

-- a hop is that of a route with the prefix; there is none where the prefix is missing
abbrev pub GetSays : List Route → (bits len : ℕ) → Option ℕ → Type 0
GetSays rs bits len (Some hop) = (k : ℕ) × Found rs bits len k × ((get_or rs k no_route).hop ≡ hop)
GetSays rs bits len None = (k : ℕ) × Missing rs bits len k
