-- What the steps that make a node leave of a row lent. Assumes nothing: these are definitions.
use Rattle.std.specs.Prelude.{◌≡◌, ℕ, ◌<◌, length, slice_index}
use Rattle.grow.specs.declared.nodes.Nodes.{Nodes}

-- the row is still the one that was lent, and as long
pub record SameRow (old new : Nodes) : Type 0 where
  pub lent : new.row.ghost_name ≡ old.row.ghost_name
  pub long : length new.row.now ≡ length old.row.now

-- and only what stands behind its first so many numbers is written
pub record Kept (old new : Nodes) (first : ℕ) : Type 0 where
  pub row : SameRow old new
  pub count : new.count ≡ old.count
  pub same : (x : ℕ) → x < first → slice_index new.row.now x ≡ slice_index old.row.now x
