-- A row of nodes of which some are free: for the crate that removes routes. Assumes nothing: these are definitions.
use Rattle.std.specs.Prelude.{◌≡◌, ℕ, ◌-◌, ◌*◌, ◌/◌, ◌%◌, ◌^◌, ◌<◌, ◌≢◌, ◌⊎◌, List, slice_index, slice_index_or}
use Rattle.prefix.specs.Routes.{first}
use Rattle.prefix.specs.Map.{Hops}
use Rattle.trie.specs.Nodes.{said, goes}
use Rattle.trie.specs.Shape.{local, Deeper, Shape, Held}
use Rattle.trie.specs.Places.{Along}

-- the first so many nodes, without the free ones: their numbers stand first in a list
pub record Used (nodes : ℕ) (free : List ℕ) (left a : ℕ) : Type 0 where
  pub below : a < nodes
  pub off : (p : ℕ) → p < left → slice_index free p ≢ a

-- no node is free twice
abbrev pub Differ : (free : List ℕ) (left : ℕ) → Type 0
Differ free left = (p r : ℕ) → p < left → r < left → slice_index free p ≡ slice_index free r → p ≡ r

-- the live nodes of a row are the trie of the map m
pub record Loose (w : ℕ) (m : Hops) (t : List ℕ) (Live : ℕ → Type 0) : Type 0 where
  -- how deep each node hangs, and the nibbles that lead to it
  pub depth : ℕ → ℕ
  pub path : ℕ → ℕ
  pub shape : Shape w (local m) (Deeper m) (said t) (goes t) Live depth path

-- the first so many nodes are the trie of the map, and some that are free
pub record Partly (w : ℕ) (m : Hops) (t : List ℕ) (nodes : ℕ) (free : List ℕ) (left : ℕ) : Type 0 where
  pub differ : Differ free left
  pub loose : Loose w m t (Used nodes free left)

-- the place is a cell's second number, and names the node
pub record Names (t : List ℕ) (nodes node place : ℕ) : Type 0 where
  pub odd : place % 2 ≡ 1
  pub low : place < 32 * nodes
  pub holds : slice_index_or t place 0 ≡ node

-- the row of a removal whose words are made new: those of m, with the way to the first l bits of x still there
abbrev pub WithWay : (w l x : ℕ) (m : Hops) (t : List ℕ) (nodes : ℕ) → Type 0
WithWay w l x m t nodes = Held w (local m) (Along m l (first w l x) ((l - 1) / 4)) t nodes

-- the map needs the last node of that way: it has the prefix, or another that goes through the node
abbrev pub Needed : (w l x : ℕ) (m : Hops) → Type 0
Needed w l x m = (m l (first w l x) ≢ 0) ⊎ Deeper m ((l - 1) / 4) (first w l x / 2 ^ (l - 4 * ((l - 1) / 4)))
