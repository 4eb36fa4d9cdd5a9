-- A walk down the way to a prefix, and the nodes at its end that would be free: for the proof of the walk. Assumes nothing: these are definitions.
use Rattle.std.specs.Prelude.{◌≡◌, ℕ, ◌+◌, ◌*◌, ◌%◌, ◌^◌, ◌<◌, ◌≤◌, ◌≢◌, ◌⊎◌, List, length, slice_index, slice_index_or, slice_set}
use Rattle.prefix.specs.Routes.{first}
use Rattle.prefix.specs.Map.{Hops}
use Rattle.trie.specs.Shape.{local, Deeper, Held}
use Rattle.trie.specs.Places.{Way, Along}
use Rattle.prune.specs.Free.{WithWay}

-- a number of the node is not 0, beside that at the place
pub record Stays (t : List ℕ) (node place : ℕ) : Type 0 where
  pub number : ℕ
  pub small : number < 32
  pub other : 32 * node + number ≢ place
  pub some : slice_index_or t (32 * node + number) 0 ≢ 0

-- none is
abbrev pub Bare : (t : List ℕ) (node place : ℕ) → Type 0
Bare t node place = (y : ℕ) → y < 32 → 32 * node + y ≢ place → slice_index t (32 * node + y) ≡ 0

-- at depth d of the way to a prefix, node cur: the last `left` nodes of the way, whose numbers stand in the list, hang beneath the cell at `place`
pub record Chain {w : ℕ} {m : Hops} {l q top nodes : ℕ} {t : List ℕ} (h : Held w (local m) (Along m l q top) t nodes) (d cur place : ℕ) (free : List ℕ) (left : ℕ) : Type 0 where
  pub deep : h.depth cur ≡ d
  pub way : Way l q d (h.path cur)
  -- the cell, and the depth of its node
  pub parent : ℕ
  pub nibble : ℕ
  pub above : ℕ
  pub sum : above + left ≡ d
  pub is : place ≡ 32 * parent + (2 * nibble + 1)
  pub live : parent < nodes
  pub small : nibble < 16
  pub high : h.depth parent ≡ above
  pub leads : Way l q (above + 1) (16 * h.path parent + nibble)
  -- its node is the root, or has something beside
  pub stays : (above ≡ 0) ⊎ Stays t parent place
  -- the nodes of the list
  pub inside : (p : ℕ) → p < left → slice_index free p < nodes
  pub deeper : (p : ℕ) → p < left → h.depth (slice_index free p) ≡ above + 1 + p
  pub along : (p : ℕ) → p < left → Way l q (above + 1 + p) (h.path (slice_index free p))
  -- the first is needed only if the last is
  pub needs : Deeper m (above + 1) (16 * h.path parent + nibble) → Deeper m d (h.path cur)

-- a walk to the first l bits of x has come to depth d and node cur
pub record Walked (w l x nodes : ℕ) (t : List ℕ) (d cur place : ℕ) (free : List ℕ) (left : ℕ) : Type 0 where
  pub here : cur < nodes
  pub low : place < 32 * nodes
  pub some : 0 < left
  pub few : left ≤ d
  pub deep : 4 * d < l
  pub chain : (m : Hops) (h : WithWay w l x m t nodes) → Chain h d cur place free left

-- one step of a walk, from node cur to the node that the cell at `at` names
pub record Stepped (t : List ℕ) (nodes cur at place : ℕ) (free : List ℕ) (left cur' place' : ℕ) (free' : List ℕ) (left' : ℕ) : Type 0 where
  pub room : left < length free
  pub some : slice_index t at ≢ 0
  pub below : slice_index t at < nodes
  pub next : cur' ≡ slice_index t at
  -- where cur is the root or stays, the nodes that would be free begin anew beneath that cell; else the next is one more of them
  pub how :
      (((left ≡ 0) ⊎ Stays t cur at) × (place' ≡ at) × (left' ≡ 1) × (free' ≡ slice_set free 0 cur'))
      ⊎ ((0 < left) × Bare t cur at × (place' ≡ place) × (left' ≡ left + 1) × (free' ≡ slice_set free left cur'))

-- the key y is what is left of x behind d nibbles
abbrev pub Rest : (w d x y : ℕ) → Type 0
Rest w d x y = (j : ℕ) → 4 * d + j ≤ w → first w j y ≡ first w (4 * d + j) x % 2 ^ j
