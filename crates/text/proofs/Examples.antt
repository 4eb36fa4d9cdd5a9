-- Lines, a refusal and replies, and what the specification makes of them, for the readers of `specs/Commands`, `specs/Refusals` and `specs/Replies`. Nothing cites these: they show that the definitions say what they mean.
use Rattle.std.proofs.Common.{◌≡◌, Some, None, codes, refl}
use Rattle.std.specs.Fmt.{digits as spelt}
use Rattle.text.specs.declared.lines.Command.TheVariants.{Table, Put, Away, Look, Beneath}
use Rattle.text.specs.declared.lines.Line.TheVariants.{Blank, Command as Asks}
use Rattle.text.specs.declared.refusals.Refusal.TheVariants.{Prefix}
use Rattle.text.specs.declared.replies.Reply.TheVariants.{Refused, Route, Beneath as Count}
use Rattle.text.specs.Commands.{both, prefix, routed, put, asked, ordered, reads}
use Rattle.text.specs.Dots.{dots}
use Rattle.text.specs.Fields.{fields}
use Rattle.text.specs.Numerals.{value_on, digits, decimal, octet, joined, dotted}
use Rattle.text.specs.Refusals.{refused}
use Rattle.text.specs.Replies.{written}

table : reads (codes "table 100") ≡ Some (Asks (Table 100))
unfolding reads ordered fields asked value_on digits decimal
table = refl

route : reads (codes "put 10.1.0.0 16 to 70000") ≡ Some (Asks (Put 167837696 16 70000))
unfolding reads ordered fields asked put both routed value_on digits decimal octet joined dotted
route = refl

zeros : reads (codes "away 010.001.000.000 0000033") ≡ Some (Asks (Away 167837696 33))
unfolding reads ordered fields asked prefix both value_on digits decimal octet joined dotted
zeros = refl

look : reads (codes "look 255.255.255.255") ≡ Some (Asks (Look 4294967295))
unfolding reads ordered fields asked value_on digits decimal octet joined dotted
look = refl

beneath : reads (codes "beneath 10.0.0.0 8") ≡ Some (Asks (Beneath 167772160 8))
unfolding reads ordered fields asked prefix both value_on digits decimal octet joined dotted
beneath = refl

remark : reads (codes "# a remark") ≡ Some Blank
unfolding reads
remark = refl

empty : reads (codes "") ≡ Some Blank
unfolding reads
empty = refl

high_part : reads (codes "look 10.1.0.256") ≡ None
unfolding reads ordered fields asked value_on digits decimal octet joined dotted
high_part = refl

five_parts : reads (codes "look 10.1.0.0.0") ≡ None
unfolding reads ordered fields asked value_on digits decimal octet joined dotted
five_parts = refl

empty_part : reads (codes "look 10..0.1") ≡ None
unfolding reads ordered fields asked value_on digits decimal octet joined dotted
empty_part = refl

two_spaces : reads (codes "table  100") ≡ None
unfolding reads ordered fields asked value_on digits decimal
two_spaces = refl

trailing : reads (codes "table 100 ") ≡ None
unfolding reads ordered fields asked value_on digits decimal
trailing = refl

signed : reads (codes "table +100") ≡ None
unfolding reads ordered fields asked value_on digits decimal
signed = refl

largest : reads (codes "table 18446744073709551615") ≡ Some (Asks (Table 18446744073709551615))
unfolding reads ordered fields asked value_on digits decimal
largest = refl

too_large : reads (codes "table 18446744073709551616") ≡ None
unfolding reads ordered fields asked value_on digits decimal
too_large = refl

unknown : reads (codes "drop 10.0.0.0 8") ≡ None
unfolding reads ordered fields asked
unknown = refl

shown_refused : refused (Prefix 33) ≡ codes "refused 1 at 33"
unfolding spelt
shown_refused = refl

shown_route : written (Route 167837696 16 2) ≡ codes "10.1.0.0 16 to 2"
unfolding dots spelt
shown_route = refl

shown_reply_refused : written (Refused 1 33) ≡ codes "refused 1 at 33"
unfolding spelt
shown_reply_refused = refl

shown_count : written (Count 3) ≡ codes "3 beneath"
unfolding spelt
shown_count = refl
