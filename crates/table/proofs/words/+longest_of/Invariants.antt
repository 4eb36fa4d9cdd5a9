-- Each step has one length less to look at.
use Rattle.table.proofs.words.+longest_of.Given as goal

abbrev pub decreases-longest_of : goal.decreases-longest_of
decreases-longest_of g l = l.more
