-- What writing hints leaves of a row: for the moves, which go on with the same nodes. Assumes nothing: these are definitions.
use Rattle.std.specs.Prelude.{◌≡◌, ℕ, ◌*◌, ◌<◌, slice_index}
use Rattle.prune.specs.declared.hints.Nodes.{Nodes}

-- the nodes in use are what they were
pub record Untouched (old new : Nodes) : Type 0 where
  pub lent : new.row.ghost_name ≡ old.row.ghost_name
  pub count : new.count ≡ old.count
  pub same : (x : ℕ) → x < 32 * old.count → slice_index new.row.now x ≡ slice_index old.row.now x
