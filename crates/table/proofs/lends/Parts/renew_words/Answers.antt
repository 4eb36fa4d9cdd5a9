-- The nodes are lent on, and come back with other words.
use Rattle.std.proofs.Common.{◌+◌, refl}
use Rattle.table.proofs.Lent.{lent_tail, lent_beside, lent_count, lent_trie, part_is}
use Rattle.table.proofs.lends.Parts.renew_words.Goals as goal

pub returns : goal.returns
returns g c =
    let t = lent_tail (c.args.self.now.at + 2) c.args.self.now.row.now c.write_words.new.nodes c.args.self.now.inside c.write_words.auto.nodes in
    let p = part_is g.K.Key.words c.args.self.now.at c.args.self.now.row.now c.args.self.now.place in
    let part = lent_trie g.K.Key.words c.args.self.now.at c.args.self.now.row.now _ _ c.args.self.now.place t in
    record {
      renewed = record {
        beside = lent_beside g.K.Key.words c.args.self.now.at c.args.self.now.row.now _ _ c.args.self.now.place t;
        count = lent_count g.K.Key.words c.args.self.now.at c.args.self.now.row.now _ _ c.args.self.now.place t;
        fits = rw p at c.write_words.ensures.fits;
        mask = c.cells-mask.result;
        said = c.words_of-words.result;
        cells = c.cells-mask.ensures.bits c.args.way.now.some c.args.way.now.short;
        says = c.words_of-words.ensures;
        written = λ done. rw part (rw p at (c.write_words.ensures.written done));
      };
      lent = refl;
    }
