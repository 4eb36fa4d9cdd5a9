-- Why `descend` ends: each step takes one from the steps.
use Rattle.trie.proofs.lookup.+descend.Given as goal

abbrev pub decreases-descend : goal.decreases-descend
decreases-descend g l = l.steps
