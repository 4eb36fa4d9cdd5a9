-- `prefix`: an address and a length, for the check.
use Rattle.std.proofs.Common.{◌≡◌, ◌∙◌}
use Rattle.text.specs.Commands.{prefix, both}
use Rattle.text.specs.Fields.{fields}
use Rattle.text.specs.Numerals.{decimal, dotted}
use Rattle.text.proofs.Asks.{prefix_none, prefix_some, lacks_bits, lacks_len, has_both}
use Rattle.text.proofs.lines.prefix.Goals as goal
use Rattle.text.proofs.lines.prefix.Goals.{In-ok-address}

pub returns-in-err-address : goal.returns-in-err-address
returns-in-err-address c = c.from-residual.ensures ∙ prefix_none c.args.text.now c.in-err-address.ensures.cases

-- what is read once the space is found
words : (c : In-ok-address) → prefix (fields 32 c.args.text.now) ≡ both (dotted c.in-ok-address.address.now) (decimal c.in-ok-address.len.now)
words c = prefix_some c.args.text.now c.in-ok-address.address c.in-ok-address.len c.in-ok-address.ensures.cases

pub returns-in-err-dotted : goal.returns-in-err-dotted
returns-in-err-dotted c = c.from-residual-in-err-dotted.ensures ∙ lacks_bits _ _ _ (words (goal.at.returns-in-err-dotted c).In-ok-address) c.in-err-dotted.ensures

pub returns-in-err-decimal : goal.returns-in-err-decimal
returns-in-err-decimal c = c.from-residual-in-err-decimal.ensures ∙ lacks_len _ _ _ (words (goal.at.returns-in-err-decimal c).In-ok-address) c.in-err-decimal.ensures

pub returns : goal.returns
returns c = has_both _ _ _ _ _ (words (goal.at.returns c).In-ok-address) c.in-ok-dotted.ensures c.in-ok-decimal.ensures
