-- Every good list has a trie, as proofs/Exists.antt proves it. For the contract of `has_trie_holds`.
use Rattle.exists.proofs.Exists.{has_trie}
use Rattle.exists.proofs.has_trie_holds.Goals as goal

pub returns : goal.returns
returns c = has_trie
