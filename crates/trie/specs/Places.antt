-- Places in a trie against one prefix, and two maps that differ at one: for crates that change tries. A prefix is its length l and its first bits q. Assumes nothing: these are definitions.
use Rattle.std.specs.Prelude.{◌≡◌, ℕ, ◌+◌, ◌-◌, ◌*◌, ◌/◌, ◌%◌, ◌^◌, ◌<◌, ◌≤◌, ◌≢◌, ◌⊎◌, List}
use Rattle.prefix.specs.Map.{Hops}
use Rattle.trie.specs.Shape.{local, Deeper, Held}

-- the path c of d nibbles is the beginning of the prefix, and not all of it: the way to the prefix goes through this place
pub record Way (l q d c : ℕ) : Type 0 where
  -- the prefix is longer than the path
  pub long : 4 * d < l
  -- and begins with it
  pub begins : q / 2 ^ (l - 4 * d) ≡ c

-- the nibble by which the way goes on from depth d
abbrev pub step : (l q d : ℕ) → ℕ
step l q d = q / 2 ^ (l - 4 * (d + 1)) % 16

-- the places that the map needs, and the way to the prefix as far as depth e
abbrev pub Along : Hops → (l q e d c : ℕ) → Type 0
Along m l q e d c = Deeper m d c ⊎ ((d ≤ e) × Way l q d c)

-- the prefix answers at the path c of d + 1 nibbles, in a cell of the node at depth d
pub record Covers (l q d c : ℕ) : Type 0 where
  -- the node is the last of its way
  pub long : 4 * d < l
  pub short : l ≤ 4 * d + 4
  -- and the path begins with it
  pub fits : c / 2 ^ (4 * d + 4 - l) ≡ q

-- two maps that differ at this prefix at most
abbrev pub Apart : (m m' : Hops) (l q : ℕ) → Type 0
Apart m m' l q = (a b : ℕ) → (a ≡ l → b ≢ q) → m' a b ≡ m a b

-- a place that the map needs shows in one of its cells: that says something, or the map needs the place where it leads
pub record Shows (m : Hops) (d c : ℕ) : Type 0 where
  -- the cell's nibble
  pub nibble : ℕ
  pub small : nibble < 16
  -- which of the two
  pub how : (local m d (16 * c + nibble) ≢ 0) ⊎ Deeper m (d + 1) (16 * c + nibble)

-- a row with a node on the way to the prefix, at depth e
pub record Walk (w : ℕ) (V : ℕ → ℕ → ℕ) (P : ℕ → ℕ → Type 0) (l q e : ℕ) (t : List ℕ) (nodes node : ℕ) : Type 0 where
  pub held : Held w V P t nodes
  pub here : node < nodes
  pub deep : held.depth node ≡ e
  pub way : Way l q e (held.path node)
