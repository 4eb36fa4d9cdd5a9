-- What is lent is what the routes of the span take of the row.
use Rattle.std.proofs.Common.{◌≡◌, ℕ, ◌+◌, ◌-◌, ◌≤◌, [], length, subst, arith}
use Rattle.routes.specs.Rows.{slot}
use Rattle.routes.proofs.Lists.{length_routes}
use Rattle.beneath.proofs.Together.{none_taken, taken_by, part_says}
use Rattle.beneath.proofs.Ends.{end_inside}
use Rattle.beneath.proofs.parts.part.Goals as goal

pub returns-then-from-to : goal.returns-then-from-to
returns-then-from-to g c =
    let none = none_taken c.args.stride c.args.row.now c.span_of-from.result.from c.span_of-from.result.to c.if-from-to.true in
    let taken = taken_by g.K.Key.words c.args.stride c.args.row.now c.args.prefix.len (g.K.Key.num c.args.prefix.bits) _ _ [] c.span_of-from.ensures none in
    record { says = part_says _ _ _ _ _ _ taken; taken = taken }

pub lend-requires : goal.lend-requires
lend-requires g c =
    let n = length_routes g.K.Key.words c.args.stride c.args.row.now in
    let after = c.span_of-from.ensures.after in
    let within = c.span_of-from.ensures.within in
    let same : c.span_of-from.result.to ≡ c.span_of-from.result.from + (c.span_of-from.result.to - c.span_of-from.result.from) = omega arith in
    subst (λ (k : ℕ). slot c.args.stride k ≤ length c.args.row.now) same (end_inside g.K.Key.words c.args.stride c.args.row.now c.span_of-from.result.to (omega arith) (omega arith))

pub returns : goal.returns
returns g c =
    let taken = taken_by g.K.Key.words c.args.stride c.args.row.now c.args.prefix.len (g.K.Key.num c.args.prefix.bits) _ _ c.lend.result.now c.span_of-from.ensures c.lend.ensures in
    record { says = part_says _ _ _ _ _ _ taken; taken = taken }
