-- The words so far are written, and else the row is as it was.
use Rattle.grow.proofs.Words.{SoFar}
use Rattle.grow.proofs.masks.write_words.Given as goal

abbrev pub invariant-loop-k : goal.invariant-loop-k
invariant-loop-k l = SoFar l.node l.mask l.words l.initial.nodes l.nodes l.k
