-- That every good list of routes has a trie, as a statement: for whoever asks whether a table of tries can serve every list. Assumes nothing: this is a definition.
use Rattle.std.specs.Prelude.{◌≡◌, ℕ, ◌+◌, ◌-◌, ◌*◌, ◌^◌, ◌<◌, ◌≤◌, true, List, length}
use Rattle.prefix.specs.Routes.{Route, answer, good}
use Rattle.prefix.specs.Map.{hops, or_else}
use Rattle.trie.specs.Nodes.{nibbles, looked}
use Rattle.trie.specs.Shape.{TrieOf}

-- keys of n nibbles: for every good list there is a row of nodes, at most n - 1 for each route and one, that is the list's trie, and in which the lookup answers every key as the list does.
-- So n nodes for each route and one are always enough: eight nodes a route and one where keys have 32 bits
abbrev pub HasTrie : Type 0
HasTrie =
    (n : ℕ) (rs : List Route) → 0 < n → good (4 * n) rs ≡ true →
    (t : List ℕ) × (nodes : ℕ) × (length t ≡ 32 * nodes) × (nodes ≤ (n - 1) * length rs + 1) × TrieOf (4 * n) (hops (4 * n) rs) t nodes
    × ((x : ℕ) → x < 2 ^ (4 * n) → or_else (looked t 0 (nibbles (4 * n) n x) 0) (hops (4 * n) rs 0 0) ≡ answer (4 * n) rs x)
