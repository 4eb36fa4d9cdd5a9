-- The law of commands, for the check.
use Rattle.text.proofs.Backs.{command_back}
use Rattle.text.proofs.laws.command_round_trip.Goals as goal

pub returns : goal.returns
returns c = command_back
