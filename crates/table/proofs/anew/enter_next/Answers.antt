-- One more route of the list is there, and it is entered.
use Rattle.std.proofs.Common.{◌+◌, set, is_some, arith}
use Rattle.table.proofs.AnewSteps.{alike_trans, alike_front, alike_counted, begun_there, begun_last, begun_next}
use Rattle.table.proofs.anew.enter_next.Goals as goal

pub returns-in_err-prefix : goal.returns-in_err-prefix
returns-in_err-prefix g c =
    let none = rw (c.list.ensures.row, c.list.ensures.stride) at c.in_err-prefix.ensures in
    record {
      alike = alike_counted g.K.Key.words c.args.table.now (c.args.k + 1);
      right = λ whole s less b. absurd (omega (arith, begun_there g.K.Key.words whole c.args.table.now c.args.k s less b));
    }

pub returns : goal.returns
returns g c =
    let read = rw (c.list.ensures.row, c.list.ensures.stride) at c.in_ok-prefix.ensures in
    record {
      alike = alike_trans g.K.Key.words c.args.table.now (set c.args.table.now 0 (c.args.k + 1)) c.enter_last.new.table (alike_counted g.K.Key.words c.args.table.now (c.args.k + 1)) (alike_front g.K.Key.words _ _ c.enter_last.ensures.front);
      right = λ whole s less b. begun_next g.K.Key.words whole c.args.table.now c.enter_last.new.table c.args.k _ _ _ (is_some c.enter_last.result) s less b read.1 c.enter_last.ensures.front
          (c.enter_last.ensures.right (begun_last g.K.Key.words whole c.args.table.now c.args.k _ _ _ s less b read.1));
    }
