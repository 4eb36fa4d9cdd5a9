-- What stands behind a trie's nodes may be anything.
use Rattle.trie.proofs.Theorems.{same_row}
use Rattle.trie.proofs.laws.same_row_holds.Goals as goal

pub returns : goal.returns
returns c = same_row
