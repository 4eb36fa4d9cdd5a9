-- The two nodes of one route, worked out.
use Rattle.trie.proofs.Worked.{worked}
use Rattle.trie.proofs.laws.worked_holds.Goals as goal

pub returns : goal.returns
returns c = worked
