-- The laws of longest-prefix match, as statements over every width w: for whoever asks what a list of routes answers. Assumes nothing: these are definitions.
use Rattle.std.specs.Prelude.{◌≡◌, ℕ, zero, suc, ◌≤◌, true, false, ◌⊎◌, List, [], ◌∷◌}
use Rattle.prefix.specs.Routes.{Route, matches, answer, good_route, good, same_prefix, put, away, held, In, SameMembers}
use Rattle.prefix.specs.Map.{hops, longest}

-- y is one more than the hop of a route that matches x, and none that matches is longer; or y is 0, and none matches
abbrev pub LongestMatch : (w : ℕ) (rs : List Route) (x y : ℕ) → Type 0
LongestMatch w rs x y =
    ((e : Route) × In e rs × (matches w e x ≡ true) × (y ≡ suc e.hop) × ((d : Route) → In d rs → matches w d x ≡ true → d.len ≤ e.len))
    ⊎ ((y ≡ 0) × ((d : Route) → In d rs → matches w d x ≡ false))

-- any list, good or not, answers by the longest match
abbrev pub Longest : Type 0
Longest = (w : ℕ) (rs : List Route) (x : ℕ) → LongestMatch w rs x (answer w rs x)

-- the order of a good list does not matter, nor how often a route stands in the other
abbrev pub AnyOrder : Type 0
AnyOrder = (w : ℕ) (rs ss : List Route) (x : ℕ) → good w rs ≡ true → SameMembers rs ss → answer w rs x ≡ answer w ss x

-- put and away leave a good list good
abbrev pub StillGood : Type 0
StillGood =
    (w : ℕ) (rs : List Route) → good w rs ≡ true →
    ((r : Route) → good_route w r ≡ true → good w (put r rs) ≡ true) × ((len bits : ℕ) → good w (away len bits rs) ≡ true)

-- put and away of a prefix leave the answer to each key that it does not match, whatever the list and the route
abbrev pub OnlyThere : Type 0
OnlyThere =
    (w : ℕ) (r : Route) (rs : List Route) (x : ℕ) → matches w r x ≡ false →
    (answer w (put r rs) x ≡ answer w rs x) × (answer w (away r.len r.bits rs) x ≡ answer w rs x)

-- puts a prefix back with what was held of it
abbrev pub restore : (was len bits : ℕ) → List Route → List Route
restore zero len bits rs = rs
restore (suc h) len bits rs = put (record { bits = bits; len = len; hop = h }) rs

-- a prefix put and taken away, or only taken away, and then put back as it was held: the answers are as before
abbrev pub Undone : Type 0
Undone =
    (w : ℕ) (r : Route) (rs : List Route) (x : ℕ) → good w rs ≡ true →
    (answer w (restore (held r.len r.bits rs) r.len r.bits (away r.len r.bits (put r rs))) x ≡ answer w rs x)
    × (answer w (restore (held r.len r.bits rs) r.len r.bits (away r.len r.bits rs)) x ≡ answer w rs x)

-- good routes of two prefixes can be put in either order, into any list
abbrev pub EitherOrder : Type 0
EitherOrder =
    (w : ℕ) (r s : Route) (rs : List Route) (x : ℕ) → good_route w r ≡ true → good_route w s ≡ true → same_prefix r s ≡ false →
    answer w (put r (put s rs)) x ≡ answer w (put s (put r rs)) x

-- a good list answers as its map does
abbrev pub ByMap : Type 0
ByMap = (w : ℕ) (rs : List Route) (x : ℕ) → good w rs ≡ true → answer w rs x ≡ longest (hops w rs) w x w

-- 10.0.0.0/8 to 1, 10.1.0.0/16 to 2, 10.1.2.0/23 to 3, and all else to 9
abbrev pub four : List Route
four =
    record { bits = 0x0a00_0000; len = 8; hop = 1 }
    ∷ (record { bits = 0x0a01_0000; len = 16; hop = 2 }
    ∷ (record { bits = 0x0a01_0200; len = 23; hop = 3 } ∷ (record { bits = 0; len = 0; hop = 9 } ∷ [])))

-- these four are a good list: 10.2.3.4 goes to 1, 10.1.3.7 to 3, and 11.0.0.0 to 9
abbrev pub Worked : Type 0
Worked =
    (good 32 four ≡ true) × (answer 32 four 0x0a02_0304 ≡ suc 1) × (answer 32 four 0x0a01_0307 ≡ suc 3) × (answer 32 four 0x0b00_0000 ≡ suc 9)
