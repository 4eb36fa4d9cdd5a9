-- A product is tested by its quotient.
use Rattle.std.proofs.Common.{length, arith}
use Rattle.std.proofs.lemmas.Bool.Decides.{nat_tests}
use Rattle.routes.proofs.Slots.{long_by_quotient, short_by_quotient}
use Rattle.routes.proofs.rows.has_room.Goals as goal

pub returns-then-row-ge2 : goal.returns-then-row-ge2
returns-then-row-ge2 g c =
    let long = long_by_quotient c.args.stride c.args.room (length c.args.row.now) (omega arith) (omega arith) in
    let short = short_by_quotient c.args.stride c.args.room (length c.args.row.now) (omega arith) (omega arith) in
    grind (arith, nat_tests)
