-- What a row holds after a gap was opened or closed in it. Assumes nothing: these are definitions.
use Rattle.std.specs.Prelude.{◌≡◌, ℕ, ◌+◌, ◌<◌, ◌≤◌, List, slice_index, slice_index_or}
use Rattle.prefix.specs.Words.{loaded}

-- what stood from a place on, up to an end, stands `gap` further; what stands in the gap is not said
pub record Opened (gap at end : ℕ) (old new : List ℕ) : Type 0 where
  pub before : (i : ℕ) → i < at → slice_index new i ≡ slice_index old i
  pub moved : (i : ℕ) → at ≤ i → i < end → slice_index new (i + gap) ≡ slice_index old i
  pub behind : (i : ℕ) → end + gap ≤ i → slice_index new i ≡ slice_index old i

-- what stood `gap` further, up to an end, stands from a place on; the last of it stays where it was too
pub record Closed (gap at end : ℕ) (old new : List ℕ) : Type 0 where
  pub before : (i : ℕ) → i < at → slice_index new i ≡ slice_index old i
  pub moved : (i : ℕ) → at ≤ i → i + gap < end → slice_index new i ≡ slice_index old (i + gap)
  pub behind : (i : ℕ) → end ≤ i + gap → slice_index new i ≡ slice_index old i

-- a route was written from a place on, its bits, its length and its hop, and nothing else
pub record Written (words at : ℕ) (old new : List ℕ) (bits len hop : ℕ) : Type 0 where
  pub is_bits : loaded words new at ≡ bits
  pub is_len : slice_index_or new (at + words) 0 ≡ len
  pub is_hop : slice_index_or new (at + (words + 1)) 0 ≡ hop
  pub before : (i : ℕ) → i < at → slice_index new i ≡ slice_index old i
  pub behind : (i : ℕ) → at + (words + 2) ≤ i → slice_index new i ≡ slice_index old i
