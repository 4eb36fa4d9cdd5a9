-- One node of zeros is the trie of no routes.
use Rattle.trie.proofs.Theorems.{empty}
use Rattle.trie.proofs.laws.empty_holds.Goals as goal

pub returns : goal.returns
returns c = empty
