-- What holds of reading and writing together, for whoever stores what was printed and reads it again.
use Rattle.std.specs.Prelude.{◌≡◌, Some}
use Rattle.text.specs.Laws.{Fitting as TextFitting}
use Rattle.lines.specs.declared.commands.Command.{Command}
use Rattle.lines.specs.declared.commands.Command.TheVariants.{Basic, List, Help}
use Rattle.lines.specs.declared.lines.Line.TheVariants.{Command as Asks}
use Rattle.lines.specs.Commands.{reads, said}

-- the numbers of a command are within their types, as those of each `Command` of a program are
abbrev pub Fitting : Command → Type 0
Fitting (Basic command) = TextFitting command
Fitting List = Unit {0}
Fitting Help = Unit {0}

-- a command that is written and read again is the same
abbrev pub CommandRoundTrip : Type 0
CommandRoundTrip = (x : Command) → Fitting x → reads (said x) ≡ Some (Asks x)
