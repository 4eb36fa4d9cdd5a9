-- What holds of every trie of a map, as statements: for crates that make and change tries. Assumes nothing: these are definitions.
use Rattle.std.specs.Prelude.{◌≡◌, ℕ, ◌+◌, ◌-◌, ◌*◌, ◌<◌, ◌≤◌, List, [], ◌∷◌, length, replicate, slice_index, slice_set}
use Rattle.prefix.specs.Words.{width}
use Rattle.prefix.specs.Routes.{Route, route_of}
use Rattle.prefix.specs.Map.{Hops, hops}
use Rattle.trie.specs.Nodes.{goes, nibbles, looked}
use Rattle.trie.specs.Shape.{TrieOf, Named}

-- keys of n nibbles: beside the root, each route needs at most n - 1 nodes
abbrev pub NodeBound : Type 0
NodeBound =
    (n : ℕ) (rs : List Route) (t : List ℕ) (nodes : ℕ) → TrieOf (4 * n) (hops (4 * n) rs) t nodes → nodes ≤ (n - 1) * length rs + 1

-- so a row made for so many routes has nodes enough, and for each route one to spare
abbrev pub RoomEnough : Type 0
RoomEnough =
    (words room : ℕ) (rs : List Route) (t : List ℕ) (nodes : ℕ) → 0 < words → length rs ≤ room
    → TrieOf (width words) (hops (width words) rs) t nodes → nodes + room ≤ 8 * words * room + 1

-- one node of zeros is the trie of no routes
abbrev pub Empty : Type 0
Empty =
    (w : ℕ) (t : List ℕ) → 0 < w → 32 ≤ length t → ((i : ℕ) → i < 32 → slice_index t i ≡ 0) → TrieOf w (hops w []) t 1

-- every node but the root is named by just one cell
abbrev pub NamedOnce : Type 0
NamedOnce =
    (w : ℕ) (m : Hops) (t : List ℕ) (nodes : ℕ) → TrieOf w m t nodes → (x : ℕ) → 0 < x → x < nodes → Named (goes t) (λ i. i < nodes) x

-- a trie is one of any map with the same values
abbrev pub SameMap : Type 0
SameMap =
    (w : ℕ) (m m' : Hops) (t : List ℕ) (nodes : ℕ) → ((l q : ℕ) → m l q ≡ m' l q) → TrieOf w m t nodes → TrieOf w m' t nodes

-- only the numbers of its nodes count: what stands behind them may be anything
abbrev pub SameRow : Type 0
SameRow =
    (w : ℕ) (m : Hops) (t t' : List ℕ) (nodes : ℕ) → 32 * nodes ≤ length t' → ((i : ℕ) → i < 32 * nodes → slice_index t' i ≡ slice_index t i)
    → TrieOf w m t nodes → TrieOf w m t' nodes

-- 10.0.0.0/8 to 1
abbrev pub one_route : List Route
one_route = route_of 0x0a00_0000 8 1 ∷ []

-- two nodes: cell 0 of the root names node 1, whose cell 10 says 2
abbrev pub two_nodes : List ℕ
two_nodes = slice_set (slice_set (replicate 64 0) 1 1) 52 2

-- these are the trie of that route: 10.1.2.3 goes to 1, and 11.0.0.0 to nowhere
abbrev pub Worked : Type 0
Worked =
    TrieOf 32 (hops 32 one_route) two_nodes 2
    × (looked two_nodes 0 (nibbles 32 8 0x0a01_0203) 0 ≡ 2)
    × (looked two_nodes 0 (nibbles 32 8 0x0b00_0000) 0 ≡ 0)
