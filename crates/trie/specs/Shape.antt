-- When a row is the trie of a map: for the proof that lookups are right, and for crates that change tries. Assumes nothing: these are definitions.
use Rattle.std.specs.Prelude.{◌≡◌, ℕ, ◌+◌, ◌-◌, ◌*◌, ◌/◌, ◌^◌, ◌<◌, ◌≤◌, ◌≢◌, List, length}
use Rattle.prefix.specs.Map.{Hops, or_else}
use Rattle.trie.specs.Nodes.{said, goes}

-- a place is a depth d and a path of d nibbles, as a number.
-- what the prefixes of 4 d + 1 to 4 d + 4 bits answer at a path c of d + 1 nibbles, the longest first
unfoldable pub local : Hops → (d c : ℕ) → ℕ
local m d c =
    or_else (m (4 * d + 4) c) (or_else (m (4 * d + 3) (c / 2)) (or_else (m (4 * d + 2) (c / 4)) (m (4 * d + 1) (c / 8))))

-- some prefix of the map is longer than d nibbles and begins with the path c: its lookup goes through this place
pub record Deeper (m : Hops) (d c : ℕ) : Type 0 where
  -- the prefix, by its length and its first bits
  pub len : ℕ
  pub bits : ℕ
  -- it is longer than the path
  pub long : 4 * d < len
  -- the map has it
  pub there : m len bits ≢ 0
  -- it begins with the path
  pub begins : bits / 2 ^ (len - 4 * d) ≡ c

-- node c hangs where cell k of node i leads
pub record Child (Live : ℕ → Type 0) (depth path : ℕ → ℕ) (i k c : ℕ) : Type 0 where
  pub live : Live c
  -- one step deeper
  pub deep : depth c ≡ depth i + 1
  -- by the cell's nibble
  pub along : path c ≡ 16 * path i + k

-- the live nodes are just those that the places P need, each once: S and G are the two numbers of each cell, V what the first must be; depth and path say where each node hangs
pub record Shape (w : ℕ) (V : ℕ → ℕ → ℕ) (P : ℕ → ℕ → Type 0) (S G : ℕ → ℕ → ℕ) (Live : ℕ → Type 0) (depth path : ℕ → ℕ) : Type 0 where
  -- node 0 is live
  pub root : Live 0
  -- and hangs at the top
  pub top : (depth 0 ≡ 0) × (path 0 ≡ 0)
  -- at each node some bits of a key are left
  pub high : (i : ℕ) → Live i → 4 * depth i < w
  -- each path has as many nibbles as the depth says
  pub narrow : (i : ℕ) → Live i → path i < 16 ^ depth i
  -- each cell says what it must
  pub says : (i k : ℕ) → Live i → k < 16 → S i k ≡ V (depth i) (16 * path i + k)
  -- where a cell names no node, none is needed
  pub stops : (i k : ℕ) → Live i → k < 16 → G i k ≡ 0 → P (depth i + 1) (16 * path i + k) → ⊥
  -- where it names one, that is live and hangs there
  pub goes_on : (i k : ℕ) → Live i → k < 16 → G i k ≢ 0 → Child Live depth path i k (G i k)
  -- no two nodes hang at one place
  pub alone : (i j : ℕ) → Live i → Live j → depth i ≡ depth j → path i ≡ path j → i ≡ j
  -- each node but the root is needed
  pub used : (i : ℕ) → 0 < i → Live i → P (depth i) (path i)

-- the first so many nodes of a row are those that the places P need, with the words V; in the middle of a change P and V are of other data than a map's
pub record Held (w : ℕ) (V : ℕ → ℕ → ℕ) (P : ℕ → ℕ → Type 0) (t : List ℕ) (nodes : ℕ) : Type 0 where
  -- how deep each node hangs
  pub depth : ℕ → ℕ
  -- the nibbles that lead to it
  pub path : ℕ → ℕ
  -- the row has all of them
  pub fits : 32 * nodes ≤ length t
  -- each cell says what it must, and the nodes are just those that are needed
  pub shape : Shape w V P (said t) (goes t) (λ i. i < nodes) depth path

-- the row is the trie of the map m, for keys of w bits: each cell says what the map answers there, and the nodes are just those that the map needs
abbrev pub TrieOf : (w : ℕ) (m : Hops) (t : List ℕ) (nodes : ℕ) → Type 0
TrieOf w m t nodes = Held w (local m) (Deeper m) t nodes

-- cell (parent, nibble) names node x, and no other cell does
pub record Named (G : ℕ → ℕ → ℕ) (Live : ℕ → Type 0) (x : ℕ) : Type 0 where
  -- the cell: a nibble of a live node
  pub parent : ℕ
  pub nibble : ℕ
  pub live : Live parent
  pub small : nibble < 16
  -- it names x
  pub names : G parent nibble ≡ x
  -- every cell that names x is this one
  pub only : (i k : ℕ) → Live i → k < 16 → G i k ≡ x → (i ≡ parent) × (k ≡ nibble)
