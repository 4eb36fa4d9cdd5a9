-- The law of commands, for the check.
use Rattle.lines.proofs.Backs.{command_back}
use Rattle.lines.proofs.laws.command_round_trip.Goals as goal

pub returns : goal.returns
returns c = command_back
