-- Each step goes past four bits.
use Rattle.prefix.proofs.prefixes.+zero_behind.Given as goal

abbrev pub decreases-zero_behind : goal.decreases-zero_behind
decreases-zero_behind g l = l.len
