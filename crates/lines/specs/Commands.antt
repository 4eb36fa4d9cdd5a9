-- Which commands a line says beside those of `text`, and how they are written, for whoever writes lines and for the program that serves them.
use Rattle.std.specs.Prelude.{ℕ, cond, List, Some, codes, Option}
use Rattle.std.specs.Option.{option_map}
use Rattle.std.specs.Str.{bytes_eq}
use Rattle.text.specs.declared.lines.Line.{Line as TextLine}
use Rattle.text.specs.declared.lines.Line.TheVariants as text
use Rattle.text.specs.Commands.{reads as text_reads, said as text_said}
use Rattle.lines.specs.declared.commands.Command.{Command}
use Rattle.lines.specs.declared.commands.Command.TheVariants.{Basic, List as Listing, Help}
use Rattle.lines.specs.declared.lines.Line.{Line}
use Rattle.lines.specs.declared.lines.Line.TheVariants.{Blank, Command as Asks}

-- what `text` reads, as a line of this crate
abbrev pub widened : TextLine → Line
widened text.Blank = Blank
widened (text.Command command) = Asks (Basic command)

-- a line: `list`, `help`, or what `text` reads
unfoldable pub reads : List ℕ → Option Line
reads bs =
    cond (bytes_eq bs (codes "list")) (Some (Asks Listing))
    (cond (bytes_eq bs (codes "help")) (Some (Asks Help)) (option_map widened (text_reads bs)))

-- the bytes of a command, as a line says it
abbrev pub said : Command → List ℕ
said (Basic command) = text_said command
said Listing = codes "list"
said Help = codes "help"
