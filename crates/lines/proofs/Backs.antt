-- What is written is read as it was, for the law of commands. Assumes nothing.
use Rattle.std.proofs.Common.{◌≡◌, false, codes, refl, ap}
use Rattle.std.specs.Option.{option_map}
use Rattle.std.specs.Str.{bytes_eq}
use Rattle.text.specs.declared.lines.Command.{Command as TextCommand}
use Rattle.text.specs.declared.lines.Command.TheVariants.{Table, Put, Away, Look, Beneath, Nodes}
use Rattle.text.specs.Commands.{said as text_said}
use Rattle.text.proofs.Backs.{command_back as text_back}
use Rattle.lines.specs.declared.commands.Command.TheVariants.{Basic, List as Listing, Help}
use Rattle.lines.specs.Commands.{reads, widened}
use Rattle.lines.specs.Laws.{CommandRoundTrip}

-- no command of `text` is written as one of the two others
no_list : (c : TextCommand) → bytes_eq (text_said c) (codes "list") ≡ false
no_list (Table room) = refl
no_list (Put bits len hop) = refl
no_list (Away bits len) = refl
no_list (Look address) = refl
no_list (Beneath bits len) = refl
no_list Nodes = refl

no_help : (c : TextCommand) → bytes_eq (text_said c) (codes "help") ≡ false
no_help (Table room) = refl
no_help (Put bits len hop) = refl
no_help (Away bits len) = refl
no_help (Look address) = refl
no_help (Beneath bits len) = refl
no_help Nodes = refl

pub command_back : CommandRoundTrip
unfolding reads
command_back (Basic c) h = rw (no_list c, no_help c) (ap (option_map widened) (text_back c h))
command_back Listing h = refl
command_back Help h = refl
