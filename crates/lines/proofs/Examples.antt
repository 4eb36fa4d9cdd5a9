-- Lines, and what the specification makes of them, for the readers of `specs/Commands`. Nothing cites these: they show that the definitions say what they mean.
use Rattle.std.proofs.Common.{◌≡◌, Some, None, codes, refl}
use Rattle.text.specs.declared.lines.Command.TheVariants.{Table}
use Rattle.text.specs.Commands.{asked, ordered, reads as text_reads}
use Rattle.text.specs.Fields.{fields}
use Rattle.text.specs.Numerals.{value_on, digits, decimal}
use Rattle.lines.specs.declared.commands.Command.TheVariants.{Basic, List as Listing, Help}
use Rattle.lines.specs.declared.lines.Line.TheVariants.{Blank, Command as Asks}
use Rattle.lines.specs.Commands.{reads}

listing : reads (codes "list") ≡ Some (Asks Listing)
unfolding reads
listing = refl

help : reads (codes "help") ≡ Some (Asks Help)
unfolding reads
help = refl

table : reads (codes "table 100") ≡ Some (Asks (Basic (Table 100)))
unfolding reads text_reads ordered fields asked value_on digits decimal
table = refl

remark : reads (codes "# a remark") ≡ Some Blank
unfolding reads text_reads
remark = refl

empty : reads (codes "") ≡ Some Blank
unfolding reads text_reads
empty = refl

more_words : reads (codes "list all") ≡ None
unfolding reads text_reads ordered fields asked
more_words = refl
