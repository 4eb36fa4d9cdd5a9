-- Put and away change no answer to a key that the prefix does not match.
use Rattle.prefix.proofs.Theorems.{only_there}
use Rattle.prefix.proofs.laws.only_there_holds.Goals as goal

pub returns : goal.returns
returns c = only_there
