-- One more cell.
use Rattle.std.proofs.Common.{◌≡◌, sym, ◌∙◌, arith}
use Rattle.prefix.specs.Words.{width}
use Rattle.table.proofs.Cells.{path_first}
use Rattle.table.proofs.words.words_of.Goals as goal

pub returns : goal.returns
returns g c order good k h mark =
    let same : g.K.Key.num c.first-path.result ≡ _ = c.first-path.ensures.value ∙ sym (path_first (width g.K.Key.words) c.args.way.now.prefix.len (g.K.Key.num c.args.way.now.prefix.bits) c.args.way.now.some c.args.way.now.short) in
    rw (← same) (c.loop-k.invariant.1 order good k (omega arith) mark)
