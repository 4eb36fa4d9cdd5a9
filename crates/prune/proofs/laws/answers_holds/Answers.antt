-- After the cut and after each move the row answers as the map.
use Rattle.prune.proofs.Between.{answers}
use Rattle.prune.proofs.laws.answers_holds.Goals as goal

pub returns : goal.returns
returns c = answers
