-- All routes are entered into a table of none, and counted again.
use Rattle.std.proofs.Common.{refl, arith}
use Rattle.table.proofs.AnewSteps.{alike_trans, front_back, begun_all}
use Rattle.table.proofs.anew.rebuild.Goals as goal

pub returns-in_err-at : goal.returns-in_err-at
returns-in_err-at g c =
    record { front = record { long = refl; same = λ i h. refl }; right = λ s. absurd (omega (arith, c.in_err-at.ensures, s.long)) }

pub returns-then-at-table : goal.returns-then-at-table
returns-then-at-table g c =
    record { front = record { long = refl; same = λ i h. refl }; right = λ s. absurd (omega (arith, c.in_ok-at.ensures, c.if-at-table.true, s.long)) }

pub returns : goal.returns
returns g c =
    record {
      front = front_back g.K.Key.words c.args.table.now c.enter_all-done.new.table
          (alike_trans g.K.Key.words c.args.table.now c.blank.new.table c.enter_all-done.new.table c.blank.ensures.alike c.enter_all-done.ensures.alike) (omega arith);
      right = λ s.
          let e = c.enter_all-done.ensures.right c.args.table.now s refl (c.blank.ensures.right s) in
          (e.0, begun_all g.K.Key.words c.args.table.now c.enter_all-done.new.table e.1);
    }
