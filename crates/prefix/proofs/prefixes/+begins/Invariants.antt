-- Each step goes past four bits.
use Rattle.prefix.proofs.prefixes.+begins.Given as goal

abbrev pub decreases-begins : goal.decreases-begins
decreases-begins g l = l.len
