-- Every node but the root is named by just one cell.
use Rattle.trie.proofs.Theorems.{named_once}
use Rattle.trie.proofs.laws.named_once_holds.Goals as goal

pub returns : goal.returns
returns c = named_once
