-- The writes leave a table of no routes.
use Rattle.std.proofs.Common.{refl, arith}
use Rattle.table.proofs.AnewSteps.{blank_alike, blank_begun}
use Rattle.table.proofs.anew.blank.Goals as goal

pub returns : goal.returns
returns g c =
    let some = g.met.K.Key.some in
    let f = c.fill.ensures in
    record {
      alike = blank_alike g.K.Key.words c.args.at c.args.table.now c.fill.new.self c.requires.place c.requires.inside c.fill.auto.self;
      right = blank_begun g.K.Key.words c.args.at c.args.table.now c.fill.new.self c.requires.place c.requires.inside c.fill.auto.self (λ y d l. f.clones y d (omega (arith, f.len)) refl) (omega arith);
    }
