-- What the list holds of the prefix is written where the default stands.
use Rattle.std.proofs.Common.{refl, ◌∙◌, arith}
use Rattle.prefix.specs.Words.{width}
use Rattle.table.specs.Right.{listed}
use Rattle.table.proofs.Following.{default_written, held_low}
use Rattle.table.proofs.lends.Parts.set_default.Goals as goal

pub returns : goal.returns
returns g c =
    let d = default_written g.K.Key.words c.args.self.now.at c.word_of-word.result c.args.self.now.row.now c.args.self.now.place c.args.self.now.inside in
    let get = c.held.ensures in
    record {
      set = record {
        row = d.1;
        value = λ order good.
            let low = held_low (width g.K.Key.words) (listed g.K.Key.words c.args.self.now.row.now) c.args.prefix.len (g.K.Key.num c.args.prefix.bits) good in
            d.0 ∙ c.word_of-word.ensures (omega (arith, get order)) ∙ get order;
      };
      lent = refl;
    }
