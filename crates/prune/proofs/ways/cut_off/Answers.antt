-- The last node is not empty, or the nodes that are empty are cut off.
use Rattle.std.proofs.Common.{arith}
use Rattle.prune.proofs.Cuts.{kept_way, cut_way, needless}
use Rattle.prune.proofs.ways.cut_off.Goals as goal

pub returns-then-stays-clause-right : goal.returns-then-stays-clause-right
returns-then-stays-clause-right g c m h =
    let v = c.in_ok-go_down.ensures in
    kept_way h (v.chain m h) v.here _ c.none-then-stays.result.numbers c.none-then-stays.result.left c.none-then-stays.ensures c.if-stays.ensures

pub returns-clause-right : goal.returns-clause-right
returns-clause-right g c m h =
    let v = c.in_ok-go_down.ensures in
    let here = v.here in
    let fits = h.fits in
    cut_way h (v.chain m h) here v.some (omega arith) (λ y l. c.if-stays.ensures y l (λ e. omega arith))

pub returns-clause-kept : goal.returns-clause-kept
returns-clause-kept g c m h a o =
    let v = c.in_ok-go_down.ensures in
    let here = v.here in
    let fits = h.fits in
    absurd (needless h (v.chain m h) here v.some (omega arith) (λ y l. c.if-stays.ensures y l (λ e. omega arith)) o)
