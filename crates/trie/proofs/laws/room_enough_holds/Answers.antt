-- A row made for so many routes has nodes enough.
use Rattle.trie.proofs.Theorems.{room_enough}
use Rattle.trie.proofs.laws.room_enough_holds.Goals as goal

pub returns : goal.returns
returns c = room_enough
