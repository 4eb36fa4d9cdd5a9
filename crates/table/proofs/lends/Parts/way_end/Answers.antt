-- The nodes are the row's last part.
use Rattle.std.proofs.Common.{refl}
use Rattle.table.proofs.Lent.{part_is, count_is}
use Rattle.table.proofs.lends.Parts.way_end.Goals as goal

pub returns : goal.returns
returns g c =
    let p = part_is g.K.Key.words c.args.self.now.at c.args.self.now.row.now c.args.self.now.place in
    let q = count_is g.K.Key.words c.args.self.now.at c.args.self.now.row.now c.args.self.now.place in
    record { end = λ m. rw (p, q) at (c.in_ok-node.ensures.end m); its = refl }
