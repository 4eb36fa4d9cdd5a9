-- `ordered`: the one command of one word, for the check.
use Rattle.std.proofs.Common.{sym, ◌∙◌}
use Rattle.text.specs.Commands.{ordered}
use Rattle.text.proofs.lines.ordered.Goals as goal

pub returns-then-eq : goal.returns-then-eq
unfolding ordered
returns-then-eq c = rw (sym c.eq.ensures ∙ c.if-eq.true)

pub returns : goal.returns
unfolding ordered
returns c = rw (sym c.eq.ensures ∙ c.if-eq.false) c.asked.ensures
