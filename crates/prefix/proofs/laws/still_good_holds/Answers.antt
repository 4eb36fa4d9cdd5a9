-- Put and away leave a good list good.
use Rattle.prefix.proofs.Theorems.{still_good}
use Rattle.prefix.proofs.laws.still_good_holds.Goals as goal

pub returns : goal.returns
returns c = still_good
