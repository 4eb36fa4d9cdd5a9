-- The hints of the children so far lie behind the nodes.
use Rattle.prune.specs.Hints.{Untouched}
use Rattle.prune.proofs.hints.Nodes.set_children.Given as goal

abbrev pub invariant-loop-place : goal.invariant-loop-place
invariant-loop-place l = Untouched l.initial.self l.self
