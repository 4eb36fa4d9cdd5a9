-- The writes leave a blank table.
use Rattle.std.proofs.Common.{refl, arith}
use Rattle.table.proofs.Fresh.{blank_of, blank_right}
use Rattle.table.proofs.makes.make.Goals as goal

pub returns : goal.returns
returns g c =
    let some = g.met.K.Key.some in
    let f = c.fill.ensures in
    blank_right g.K.Key.words _ c.args.room (omega arith)
    (blank_of g.K.Key.words c.args.table.now c.fill.new.self c.of-at.result.at c.args.room c.of-at.ensures.at (omega (arith, c.of-at.ensures, c.if-table-at.false)) (omega (arith, c.of-at.ensures, c.if-most.false)) c.fill.auto.self
    (λ y d l. f.clones y d (omega (arith, f.len)) refl))
