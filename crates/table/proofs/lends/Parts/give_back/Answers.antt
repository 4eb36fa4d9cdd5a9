-- The nodes are lent on, and come back without those that were empty.
use Rattle.std.proofs.Common.{◌+◌, refl}
use Rattle.table.proofs.Lent.{lent_tail, tail_beside, tail_nodes, tail_trie, part_is, count_is}
use Rattle.table.proofs.lends.Parts.give_back.Goals as goal

pub returns : goal.returns
returns g c =
    let t = lent_tail (c.args.self.now.at + 2) c.args.self.now.row.now c.prune.new.nodes c.args.self.now.inside c.prune.auto.nodes in
    let p = part_is g.K.Key.words c.args.self.now.at c.args.self.now.row.now c.args.self.now.place in
    let q = count_is g.K.Key.words c.args.self.now.at c.args.self.now.row.now c.args.self.now.place in
    let right = rw (p, q) at c.in_ok-left.ensures.right in
    let part = tail_trie g.K.Key.words c.args.self.now.at c.in_ok-left.left c.args.self.now.row.now _ _ c.args.self.now.place t in
    let count = tail_nodes g.K.Key.words c.args.self.now.at c.in_ok-left.left c.args.self.now.row.now _ _ c.args.self.now.place t c.args.self.now.inside in
    record {
      beside = tail_beside g.K.Key.words c.args.self.now.at c.in_ok-left.left c.args.self.now.row.now _ _ c.args.self.now.place t;
      right = λ m held done. rw (part, count) (right m held).0;
      lent = refl;
    }
