-- The nodes are lent on, and come back with the way made.
use Rattle.std.proofs.Common.{◌+◌, refl}
use Rattle.table.specs.Right.{listed}
use Rattle.table.proofs.Lent.{lent_tail, lent_beside, tail_beside, tail_nodes, tail_trie, part_is, count_is}
use Rattle.table.proofs.Means.{nodes_fit}
use Rattle.table.proofs.lends.Parts.make_way.Goals as goal

pub returns-in_err-place : goal.returns-in_err-place
returns-in_err-place g c =
    let t = lent_tail (c.args.self.now.at + 2) c.args.self.now.row.now c.make_way.new.nodes c.args.self.now.inside c.make_way.auto.nodes in
    let p = part_is g.K.Key.words c.args.self.now.at c.args.self.now.row.now c.args.self.now.place in
    let q = count_is g.K.Key.words c.args.self.now.at c.args.self.now.row.now c.args.self.now.place in
    let enough = rw (p, q) at c.in_err-place.ensures.enough in
    record {
      beside = lent_beside g.K.Key.words c.args.self.now.at c.args.self.now.row.now _ _ c.args.self.now.place t;
      way = λ m held some short. rw c.from_residual.ensures tt;
      enough = λ m mapped some short apart there.
          let fit = nodes_fit g.K.Key.words c.args.self.now.row.now m mapped in
          rw c.from_residual.ensures (enough m (listed g.K.Key.words c.args.self.now.row.now) mapped.trie_is some short apart there fit.0 fit.1);
      its = rw c.from_residual.ensures tt;
      lent = refl;
    }

pub returns : goal.returns
returns g c =
    let t = lent_tail (c.args.self.now.at + 2) c.args.self.now.row.now c.make_way.new.nodes c.args.self.now.inside c.make_way.auto.nodes in
    let p = part_is g.K.Key.words c.args.self.now.at c.args.self.now.row.now c.args.self.now.place in
    let q = count_is g.K.Key.words c.args.self.now.at c.args.self.now.row.now c.args.self.now.place in
    let way = rw (p, q) at c.in_ok-place.ensures.way in
    let part = tail_trie g.K.Key.words c.args.self.now.at c.in_ok-place.place.count c.args.self.now.row.now _ _ c.args.self.now.place t in
    let count = tail_nodes g.K.Key.words c.args.self.now.at c.in_ok-place.place.count c.args.self.now.row.now _ _ c.args.self.now.place t c.args.self.now.inside in
    record {
      beside = tail_beside g.K.Key.words c.args.self.now.at c.in_ok-place.place.count c.args.self.now.row.now _ _ c.args.self.now.place t;
      way = λ m held some short. rw (part, count) (way m held some short);
      enough = λ m mapped some short apart there. refl;
      its = refl;
      lent = refl;
    }
