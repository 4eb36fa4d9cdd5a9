-- A good list answers as its map does.
use Rattle.prefix.proofs.Theorems.{by_map}
use Rattle.prefix.proofs.laws.by_map_holds.Goals as goal

pub returns : goal.returns
returns c = by_map
