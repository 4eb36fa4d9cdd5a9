-- What is left of a row when its default and its trie are made to follow its list. Assumes nothing: these are definitions.
use Rattle.std.specs.Prelude.{◌≡◌, ℕ, ◌+◌, ◌*◌, ◌<◌, Bool, true, ◌≢◌, List, length, nat_le, slice_index, slice_index_or, slice_set}
use Rattle.prefix.specs.Words.{width}
use Rattle.prefix.specs.Routes.{route_of, no_route, first, good, good_prefix, held, InOrder}
use Rattle.prefix.specs.Map.{Hops, hops}
use Rattle.trie.specs.Places.{Apart}
use Rattle.grow.specs.Ways.{depth_of}
use Rattle.grow.specs.Cells.{Cells, Says, Written}
use Rattle.table.specs.Right.{Mapped, Right, room, default_at, listed, default, nodes, trie}

-- the list's part of the row is as it was: only the default, the count of nodes and the nodes may be others
pub record Front (words : ℕ) (old new : List ℕ) : Type 0 where
  pub long : length new ≡ length old
  pub same : (i : ℕ) → i < default_at words (room old) → slice_index new i ≡ slice_index old i

-- the list has a prefix that the map of before had not, or had with another hop: the table is right again
abbrev pub Entered : (words : ℕ) (old new : List ℕ) (len bits : ℕ) → Bool → Type 0
Entered words old new len bits done =
    (m : Hops) → Mapped words old m → good_prefix (width words) len bits ≡ true → Apart m (hops (width words) (listed words old)) len (first (width words) len bits)
    → hops (width words) (listed words old) len (first (width words) len bits) ≢ 0 → (done ≡ true) × Right words new

-- the list has not a prefix that the map of before had: where it is done the table is right again
abbrev pub Left : (words : ℕ) (old new : List ℕ) (len bits : ℕ) → Bool → Type 0
Left words old new len bits done =
    (m : Hops) → Mapped words old m → good_prefix (width words) len bits ≡ true → Apart m (hops (width words) (listed words old)) len (first (width words) len bits)
    → m len (first (width words) len bits) ≢ 0 → done ≡ true → Right words new

-- the default was made what the list holds of the prefix, and nothing else was written
pub record DefaultSet (words : ℕ) (old new : List ℕ) (len bits : ℕ) : Type 0 where
  pub row : new ≡ slice_set old (default_at words (room old)) (default words new)
  pub value : InOrder (listed words old) → good (width words) (listed words old) ≡ true → default words new ≡ held len bits (listed words old)

-- the list and the default are as they were
pub record Beside (words : ℕ) (old new : List ℕ) : Type 0 where
  pub front : Front words old new
  pub default_same : slice_index_or new (default_at words (room old)) 0 ≡ slice_index old (default_at words (room old))

-- the last route of the list
pub record Last (words : ℕ) (row : List ℕ) (bits len hop : ℕ) : Type 0 where
  pub place : ℕ
  pub ends : place + 1 ≡ length (listed words row)
  pub is : slice_index_or (listed words row) place no_route ≡ route_of bits len hop

-- where the node lies in the row, just the words of the prefix's cells there were made what the list says; else nothing was written
pub record Renewed (words : ℕ) (old new : List ℕ) (l q node : ℕ) (done : Bool) : Type 0 where
  pub beside : Beside words old new
  pub count : nodes words new ≡ nodes words old
  pub fits : done ≡ nat_le (32 * (node + 1)) (length (trie words old))
  pub mask : ℕ
  pub said : List ℕ
  pub cells : Cells l q (depth_of l) mask
  pub says : InOrder (listed words old) → good (width words) (listed words old) ≡ true → Says (hops (width words) (listed words old)) l q (depth_of l) mask said
  pub written : done ≡ true → Written node mask said (trie words old) (trie words new)
