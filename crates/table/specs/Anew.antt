-- What a row is while its default and its trie are made anew from its list. Assumes nothing: these are definitions.
use Rattle.std.specs.Prelude.{◌≡◌, ℕ, ◌<◌, List, length, slice_index, slice_index_or}
use Rattle.table.specs.Right.{Right, room, default_at}

-- the list's part of the row is as it was, but for the count of routes
pub record Alike (words : ℕ) (old new : List ℕ) : Type 0 where
  pub long : length new ≡ length old
  pub same : (i : ℕ) → 0 < i → i < default_at words (room old) → slice_index new i ≡ slice_index old i

-- a row counts so many routes of the whole list, and is right for them
pub record Begun (words : ℕ) (whole row : List ℕ) (k : ℕ) : Type 0 where
  pub alike : Alike words whole row
  pub count : slice_index_or row 0 0 ≡ k
  pub right : Right words row
