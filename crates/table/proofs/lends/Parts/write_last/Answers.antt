-- The nodes are lent on, and come back with one word in all cells of the prefix.
use Rattle.std.proofs.Common.{◌+◌, replicate, refl, sym, ◌∙◌, arith}
use Rattle.std.proofs.lemmas.List.{get_or-replicate}
use Rattle.prefix.specs.Words.{width}
use Rattle.table.specs.Right.{listed}
use Rattle.table.proofs.Lasts.{last_word, last_fits}
use Rattle.table.proofs.Lent.{lent_tail, lent_beside, lent_count, lent_trie, part_is}
use Rattle.table.proofs.lends.Parts.write_last.Goals as goal

pub returns : goal.returns
returns g c =
    let t = lent_tail (c.args.self.now.at + 2) c.args.self.now.row.now c.write_words.new.nodes c.args.self.now.inside c.write_words.auto.nodes in
    let p = part_is g.K.Key.words c.args.self.now.at c.args.self.now.row.now c.args.self.now.place in
    let part = lent_trie g.K.Key.words c.args.self.now.at c.args.self.now.row.now _ _ c.args.self.now.place t in
    let beside = lent_beside g.K.Key.words c.args.self.now.at c.args.self.now.row.now _ _ c.args.self.now.place t in
    let cells = c.cells-mask.ensures.bits c.args.way.now.some c.args.way.now.short in
    record {
      beside = beside;
      renewed = λ last.
          record {
            beside = beside;
            count = lent_count g.K.Key.words c.args.self.now.at c.args.self.now.row.now _ _ c.args.self.now.place t;
            fits = rw p at c.write_words.ensures.fits;
            mask = c.cells-mask.result;
            said = replicate 16 c.word_of-word.result;
            cells = cells;
            says = λ order good k h mark.
                let word = last_word (width g.K.Key.words) (listed g.K.Key.words c.args.self.now.row.now) last.place (g.K.Key.num c.args.way.now.prefix.bits) c.args.way.now.prefix.len c.args.hop good order last.ends last.is _ _ ((cells k h).0 mark) in
                let low = last_fits (width g.K.Key.words) (listed g.K.Key.words c.args.self.now.row.now) last.place (g.K.Key.num c.args.way.now.prefix.bits) c.args.way.now.prefix.len c.args.hop good order last.ends last.is in
                get_or-replicate 16 k c.word_of-word.result 0 h ∙ c.word_of-word.ensures (omega arith) ∙ sym word;
            written = λ done. rw part (rw p at (c.write_words.ensures.written done));
          };
      lent = refl;
    }
