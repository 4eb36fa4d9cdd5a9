-- What holds while nodes are free, as statements: for whoever lets readers look between two writes. Assumes nothing: these are definitions.
use Rattle.std.specs.Prelude.{◌≡◌, ℕ, ◌+◌, ◌-◌, ◌*◌, ◌/◌, ◌^◌, ◌<◌, ◌≤◌, List, length, slice_index}
use Rattle.prefix.specs.Map.{Hops, or_else, longest}
use Rattle.trie.specs.Nodes.{nibbles, looked}
use Rattle.prune.specs.Free.{Used, Partly}

-- after the cut and after each move, a lookup by n nibbles answers as the map, where the prefix of no bits is added
abbrev pub Answers : Type 0
Answers =
    (n key : ℕ) (m : Hops) (t : List ℕ) (nodes : ℕ) (free : List ℕ) (left : ℕ) → Partly (4 * n) m t nodes free left → 32 * nodes ≤ length t
    → 0 < n → key / 2 ^ (4 * n - 4) < 16 → or_else (looked t 0 (nibbles (4 * n) n key) 0) (m 0 0) ≡ longest m (4 * n) key (4 * n)

-- what stands in free nodes may be anything, as after the copy of a move and before its cell is mended
abbrev pub FreeAny : Type 0
FreeAny =
    (w : ℕ) (m : Hops) (t t' : List ℕ) (nodes : ℕ) (free : List ℕ) (left : ℕ)
    → ((a y : ℕ) → Used nodes free left a → y < 32 → slice_index t' (32 * a + y) ≡ slice_index t (32 * a + y))
    → Partly w m t nodes free left → Partly w m t' nodes free left
