-- Any list answers by the longest of its routes that match.
use Rattle.prefix.proofs.Theorems.{the_longest}
use Rattle.prefix.proofs.laws.longest_holds.Goals as goal

pub returns : goal.returns
returns c = the_longest
