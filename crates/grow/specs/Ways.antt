-- A prefix on its way down, and when a row has room: for the contracts of `make_way` and `way_end`. A prefix is its length l and its first bits q, in keys of w bits. Assumes nothing: these are definitions.
use Rattle.std.specs.Prelude.{◌≡◌, ℕ, ◌+◌, ◌-◌, ◌*◌, ◌/◌, ◌%◌, ◌^◌, ◌<◌, ◌≤◌, ◌≢◌, List, length, slice_index, slice_index_or}
use Rattle.prefix.specs.Routes.{Route, first}
use Rattle.prefix.specs.Map.{Hops}
use Rattle.trie.specs.Shape.{local, Deeper}
use Rattle.trie.specs.Places.{Along, Walk}

-- how deep the last node of its way is
abbrev pub depth_of : (l : ℕ) → ℕ
depth_of l = (l - 1) / 4

-- the row is the trie of the map, and has the whole way to the prefix beside; node is the last of that way
abbrev pub WayMade : (w : ℕ) (m : Hops) (l q : ℕ) (t : List ℕ) (count node : ℕ) → Type 0
WayMade w m l q t count node = Walk w (local m) (Along m l q (depth_of l)) l q (depth_of l) t count node

-- the row is the trie of the map, and node the last of the way to the prefix
abbrev pub WayFound : (w : ℕ) (m : Hops) (l q : ℕ) (t : List ℕ) (count node : ℕ) → Type 0
WayFound w m l q t count node = Walk w (local m) (Deeper m) l q (depth_of l) t count node

-- at depth d of its way, some bits of the prefix are still ahead: the first len of rest
pub record Ahead (w l q d len rest : ℕ) : Type 0 where
  pub some : 0 < len
  pub whole : 4 * d + len ≡ l
  pub short : l ≤ w
  pub bits : first w len rest ≡ q % 2 ^ len

-- a row of size numbers has room for the nodes that the routes need, in keys of so many words
pub record Enough (words : ℕ) (rs : List Route) (size : ℕ) : Type 0 where
  pub long : 32 * ((8 * words - 1) * length rs + 1) ≤ size
  -- and their numbers can be written
  pub small : (8 * words - 1) * length rs + 1 < 2 ^ 32

-- t' is the row t with one node of zeros more behind the first count, and that is named at a place of the row
pub record Linked (t t' : List ℕ) (count place : ℕ) : Type 0 where
  pub long : 32 * (count + 1) ≤ length t'
  pub named : slice_index_or t' place 0 ≡ count
  pub kept : (x : ℕ) → x < 32 * count → x ≢ place → slice_index t' x ≡ slice_index t x
  pub blank : (y : ℕ) → y < 32 → 32 * count + y ≢ place → slice_index t' (32 * count + y) ≡ 0
