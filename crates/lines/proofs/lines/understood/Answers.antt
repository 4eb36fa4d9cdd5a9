-- `understood`: the two commands of one word, and what `text` reads, for the check.
use Rattle.std.proofs.Common.{◌≡◌, Some, None, Option, codes, sym, ap}
use Rattle.std.specs.Option.{MatchOption, IsSomeAnd, option_map}
use Rattle.text.specs.declared.lines.Line.{Line as TextLine}
use Rattle.text.proofs.Asks.{differs}
use Rattle.lines.specs.declared.lines.Line.{Line}
use Rattle.lines.specs.Commands.{reads, widened}
use Rattle.lines.proofs.lines.understood.Goals as goal

pub returns-in-list : goal.returns-in-list
unfolding reads
returns-in-list c = sym (ap reads c.in-list.is)

pub returns-in-help : goal.returns-in-help
unfolding reads
returns-in-help c = sym (ap reads c.in-help.is)

mapped : (o : Option TextLine) (r : Option Line) → MatchOption o (r ≡ None) (λ x. IsSomeAnd r (λ y. y ≡ widened x)) → r ≡ option_map widened o
mapped None r h = h
mapped (Some x) (Some y) h = ap (λ (l : Line). Some l) h
mapped (Some x) None h = absurd h

pub returns-in_default : goal.returns-in_default
unfolding reads
returns-in_default c =
    rw (differs c.args.line.now (codes "list") c.in_default.not-list, differs c.args.line.now (codes "help") c.in_default.not-help, ← c.read.ensures) (mapped c.read.result c.map.result c.map.ensures.cases)
