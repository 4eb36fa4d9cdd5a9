-- A route needs at most one node less than a key has nibbles.
use Rattle.trie.proofs.Theorems.{node_bound}
use Rattle.trie.proofs.laws.node_bound_holds.Goals as goal

pub returns : goal.returns
returns c = node_bound
