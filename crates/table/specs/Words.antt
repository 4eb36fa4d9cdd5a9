-- The words of a node's cells, as they are read from the list. Assumes nothing: these are definitions.
use Rattle.std.specs.Prelude.{ℕ, zero, suc, ◌-◌, ◌/◌}
use Rattle.prefix.specs.Map.{Hops, or_else}

-- what a map answers at a path of l bits by its prefixes of l bits and of so many lengths below it
abbrev pub down : Hops → (l path more : ℕ) → ℕ
down m l path zero = 0
down m l path (suc more) = or_else (m l path) (down m (l - 1) (path / 2) more)
