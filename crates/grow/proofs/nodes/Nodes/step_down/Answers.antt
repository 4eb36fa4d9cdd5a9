-- One step of the way, by the node that is named or by a new one.
use Rattle.grow.proofs.Walks.{onward, step_named, step_linked}
use Rattle.grow.proofs.nodes.Nodes.step_down.Goals as goal

pub returns-then-next-ne0-clause-way : goal.returns-then-next-ne0-clause-way
returns-then-next-ne0-clause-way c w m l q d h long short e = step_named l q d long h _ e c.if-next-ne0.true

pub returns-clause-way : goal.returns-clause-way
returns-clause-way c w m l q d h long short e = onward c.link_new.result (λ n x. step_linked l q d long h _ e c.if-next-ne0.false short x) c.link_new.ensures.made
