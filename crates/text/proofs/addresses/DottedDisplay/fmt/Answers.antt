-- `Dotted` prints as `dots` says, for the check.
use Rattle.std.proofs.Common.{rules}
use Rattle.text.specs.Dots.{dots}
use Rattle.text.proofs.addresses.DottedDisplay.fmt.Goals as goal

pub returns-clause-writes : goal.returns-clause-writes
unfolding dots
returns-clause-writes g c = search rules
