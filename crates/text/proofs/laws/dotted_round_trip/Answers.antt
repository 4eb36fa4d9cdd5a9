-- The law of dotted numbers, for the check.
use Rattle.text.proofs.Backs.{dotted_back}
use Rattle.text.proofs.laws.dotted_round_trip.Goals as goal

pub returns : goal.returns
returns c = dotted_back
