-- A table's row, and when it is right: the definition that every contract of a table names. Keys have so many words of 32 bits. docs/TABLE.md has the row in a picture. Assumes nothing: these are definitions.
use Rattle.std.specs.Prelude.{◌≡◌, ℕ, ◌+◌, ◌*◌, ◌^◌, ◌<◌, ◌≤◌, true, List, length, drop, slice_index, slice_index_or}
use Rattle.prefix.specs.Words.{width}
use Rattle.prefix.specs.Routes.{Route, good, InOrder}
use Rattle.prefix.specs.Map.{Hops, hops}
use Rattle.routes.specs.Rows.{slot, routes}
use Rattle.trie.specs.Shape.{TrieOf}

-- how many numbers a route takes: its bits, its length and its hop
abbrev pub stride : ℕ → ℕ
stride words = words + 2

-- for how many routes there is room
abbrev pub room : List ℕ → ℕ
room row = slice_index row 1

-- how many nodes a table with so much room has space for
abbrev pub most_nodes : (words room : ℕ) → ℕ
most_nodes words room = 8 * words * room + 1

-- where the default stands: behind the routes
abbrev pub default_at : (words room : ℕ) → ℕ
default_at words room = slot (stride words) room

-- how long a row with so much room is: the routes, the default, the count of nodes, and the nodes
abbrev pub row_length : (words room : ℕ) → ℕ
row_length words room = default_at words room + 2 + 32 * most_nodes words room

-- the routes of a table
abbrev pub listed : ℕ → List ℕ → List Route
listed words row = routes words (stride words) row

-- what is answered where nothing else is: 0, or one more than the hop of the route of no bits
abbrev pub default : ℕ → List ℕ → ℕ
default words row = slice_index row (default_at words (room row))

-- how many nodes the trie has
abbrev pub nodes : ℕ → List ℕ → ℕ
nodes words row = slice_index row (default_at words (room row) + 1)

-- the nodes
abbrev pub trie : ℕ → List ℕ → List ℕ
trie words row = drop (default_at words (room row) + 2) row

-- a row has the parts of a table, its list is good and in order, and its default and its trie are those of the map m. Between a change of the list and that of the trie m is the map of before
pub record Mapped (words : ℕ) (row : List ℕ) (m : Hops) : Type 0 where
  pub long : length row ≡ row_length words (room row)
  -- a node's number is one of the row's, so there are fewer than 2 ^ 32
  pub small : most_nodes words (room row) < 2 ^ 32
  pub fewer : slice_index_or row 0 0 ≤ room row
  pub proper : good (width words) (listed words row) ≡ true
  pub order : InOrder (listed words row)
  pub default_is : default words row ≡ m 0 0
  pub trie_is : TrieOf (width words) m (trie words row) (nodes words row)

-- a table is right: its default and its trie are those of its list
abbrev pub Right : (words : ℕ) (row : List ℕ) → Type 0
Right words row = Mapped words row (hops (width words) (listed words row))

-- a row has the parts of a table, and its list is good and in order, whatever its default and its nodes hold: enough to make the trie anew
pub record Sound (words : ℕ) (row : List ℕ) : Type 0 where
  pub long : length row ≡ row_length words (room row)
  pub small : most_nodes words (room row) < 2 ^ 32
  pub fewer : slice_index_or row 0 0 ≤ room row
  pub proper : good (width words) (listed words row) ≡ true
  pub order : InOrder (listed words row)
