-- Why `last_nibble` ends: each step goes past four bits.
use Rattle.grow.proofs.masks.+last_nibble.Given as goal

abbrev pub decreases-last_nibble : goal.decreases-last_nibble
decreases-last_nibble g l = l.len
