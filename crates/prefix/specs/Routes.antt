-- Routes, the longest match, and what putting and taking away make of a list: the page on which every promise rests. Keys have w bits, for any w. Assumes nothing: these are definitions.
use Rattle.std.specs.Prelude.{◌≡◌, ℕ, suc, ◌-◌, ◌/◌, ◌%◌, ◌^◌, ◌<◌, Bool, true, cond, not, ◌&&◌, ◌||◌, ◌⊎◌, List, [], ◌∷◌, length, ◌==◌, nat_le, nat_lt, slice_index_or}

-- a prefix of len bits, which are the highest of bits, and the hop to which what begins so is sent
pub record Route : Type 0 where
  pub bits : ℕ
  pub len : ℕ
  pub hop : ℕ

abbrev pub route_of : (bits len hop : ℕ) → Route
route_of bits len hop = record { bits = bits; len = len; hop = hop }

-- the first len bits of a key
abbrev pub first : (w len x : ℕ) → ℕ
first w len x = x / 2 ^ (w - len)

-- the key begins as the route's prefix says
unfoldable pub matches : ℕ → Route → ℕ → Bool
matches w r x = first w r.len x == first w r.len r.bits

-- going through a list: of what matches and is longer than all so far, the hop. long is 0 or one more than the length so far, found is 0 or one more than its hop
unfoldable pub best : ℕ → List Route → (x long found : ℕ) → ℕ
best w [] x long found = found
best w (r ∷ rs) x long found =
    cond (matches w r x && nat_lt long (suc r.len)) (best w rs x (suc r.len) (suc r.hop)) (best w rs x long found)

-- what a list answers to a key: 0 where no route matches, else one more than the hop of the longest that does
unfoldable pub answer : ℕ → List Route → ℕ → ℕ
answer w rs x = best w rs x 0 0

-- bits and a length are a prefix: the length fits, the bits do, and all behind the length are 0
unfoldable pub good_prefix : (w len bits : ℕ) → Bool
good_prefix w len bits = nat_le len w && (nat_lt bits (2 ^ w) && bits % 2 ^ (w - len) == 0)

-- a route is good: its prefix is one, and its hop is at most 65,535
unfoldable pub good_route : ℕ → Route → Bool
good_route w r = good_prefix w r.len r.bits && nat_le r.hop 65535

-- two routes have the same prefix
unfoldable pub same_prefix : Route → Route → Bool
same_prefix r s = r.len == s.len && r.bits == s.bits

-- no route of the list has the prefix of r
unfoldable pub absent : Route → List Route → Bool
absent r [] = true
absent r (s ∷ ss) = not (same_prefix r s) && absent r ss

-- a list is good: each route is, and no two have the same prefix
unfoldable pub good : ℕ → List Route → Bool
good w [] = true
good w (r ∷ rs) = good_route w r && (absent r rs && good w rs)

-- put: in the place of the route of the same prefix, or at the end
unfoldable pub put : Route → List Route → List Route
put r [] = r ∷ []
put r (s ∷ ss) = cond (same_prefix r s) (r ∷ ss) (s ∷ put r ss)

-- taken away, by length and bits
unfoldable pub away : (len bits : ℕ) → List Route → List Route
away len bits [] = []
away len bits (s ∷ ss) = cond (s.len == len && s.bits == bits) ss (s ∷ away len bits ss)

-- what a list holds of a prefix: 0, or one more than its hop
unfoldable pub held : (len bits : ℕ) → List Route → ℕ
held len bits [] = 0
held len bits (s ∷ ss) = cond (s.len == len && s.bits == bits) (suc s.hop) (held len bits ss)

-- a route stands in a list
abbrev pub In : Route → List Route → Type 0
In d [] = ⊥
In d (r ∷ rs) = (d ≡ r) ⊎ In d rs

-- two lists have the same members
pub record SameMembers (rs ss : List Route) : Type 0 where
  pub onward : (r : Route) → In r rs → In r ss
  pub back : (r : Route) → In r ss → In r rs

-- what lies beneath a prefix: a route as long or longer that begins with its bits
unfoldable pub beneath : (w len bits : ℕ) → Route → Bool
beneath w len bits r = nat_le len r.len && first w len r.bits == first w len bits

-- the order of a list: by bits, and by length where these are the same
abbrev pub before : Route → Route → Bool
before r s = nat_lt r.bits s.bits || (r.bits == s.bits && nat_lt r.len s.len)

-- what get_or answers past a list's end
abbrev pub no_route : Route
no_route = record { bits = 0; len = 0; hop = 0 }

-- a list is in order: each route stands before every later one
abbrev pub InOrder : List Route → Type 0
InOrder rs = (i j : ℕ) → i < j → j < length rs → before (slice_index_or rs i no_route) (slice_index_or rs j no_route) ≡ true
