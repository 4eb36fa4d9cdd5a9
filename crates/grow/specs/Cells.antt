-- The cells of one node as sixteen bits, and a row in which their words are written: for the contracts of `cells` and `write_words`. A prefix is its length l and its first bits q. Assumes nothing: these are definitions.
use Rattle.std.specs.Prelude.{◌≡◌, ℕ, ◌+◌, ◌-◌, ◌*◌, ◌/◌, ◌%◌, ◌^◌, ◌<◌, Bool, true, List, length, Decides, ◌==◌, ◌≢◌, slice_index}
use Rattle.prefix.specs.Map.{Hops}
use Rattle.trie.specs.Shape.{local}
use Rattle.trie.specs.Places.{Covers}

-- whether bit k is set
abbrev pub bit : (mask k : ℕ) → Bool
bit mask k = mask / 2 ^ k % 2 == 1

-- the path to the node at depth e of a prefix's way
abbrev pub path_of : (l q e : ℕ) → ℕ
path_of l q e = q / 2 ^ (l - 4 * e)

-- just the bits of the cells that the prefix covers there are set
abbrev pub Cells : (l q e mask : ℕ) → Type 0
Cells l q e mask = (k : ℕ) → k < 16 → Decides (bit mask k) (Covers l q e (16 * path_of l q e + k))

-- the words of the cells whose bits are set are what the map says there
abbrev pub Says : (m : Hops) (l q e mask : ℕ) (words : List ℕ) → Type 0
Says m l q e mask words = (k : ℕ) → k < 16 → bit mask k ≡ true → slice_index words k ≡ local m e (16 * path_of l q e + k)

-- t' is the row t, but the words of these cells of a node are those that are given
pub record Written (node mask : ℕ) (words t t' : List ℕ) : Type 0 where
  pub long : length t' ≡ length t
  pub new : (k : ℕ) → k < 16 → bit mask k ≡ true → slice_index t' (32 * node + 2 * k) ≡ slice_index words k
  pub old : (x : ℕ) → ((k : ℕ) → k < 16 → bit mask k ≡ true → x ≢ 32 * node + 2 * k) → slice_index t' x ≡ slice_index t x
