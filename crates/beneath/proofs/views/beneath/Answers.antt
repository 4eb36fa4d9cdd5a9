-- Nothing is lent where the length is more than a key's.
use Rattle.std.proofs.Common.{[], refl, arith}
use Rattle.beneath.proofs.Together.{span_none, none_taken, taken_by, part_says}
use Rattle.beneath.proofs.views.beneath.Goals as goal

pub returns-in-None : goal.returns-in-None
returns-in-None c =
    let span = span_none 1 3 c.args.table.now c.args.long c.args.bits (omega arith) in
    let taken = taken_by 1 3 c.args.table.now c.args.long c.args.bits 0 0 [] span (none_taken 3 c.args.table.now 0 0 refl) in
    record { says = part_says _ _ _ _ _ _ taken; taken = taken }
