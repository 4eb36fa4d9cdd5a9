-- A marked cell: its path, and the longest of its four lengths.
use Rattle.std.proofs.Common.{ℕ, ◌+◌, ◌*◌, ap, ◌∙◌, arith}
use Rattle.prefix.specs.Words.{width}
use Rattle.prefix.specs.Map.{hops}
use Rattle.table.specs.Right.{listed}
use Rattle.table.specs.Words.{down}
use Rattle.table.proofs.Cells.{joined_below, joined_fits, down_local}
use Rattle.table.proofs.words.word.Goals as goal

pub joined-requires : goal.joined-requires
joined-requires g c = joined_fits (width g.K.Key.words) (g.K.Key.num c.args.path) c.args.depth c.args.k (omega arith) c.requires.below c.requires.cell

pub longest_of-requires : goal.longest_of-requires
longest_of-requires g c =
    record {
      short = omega arith;
      below = rw c.joined.ensures (joined_below (g.K.Key.num c.args.path) c.args.depth c.args.k c.requires.below c.requires.cell);
      few = omega arith;
    }

pub returns-then-mask-k-eq1 : goal.returns-then-mask-k-eq1
returns-then-mask-k-eq1 g c order good mark =
    let m = hops (width g.K.Key.words) (listed g.K.Key.words c.args.table.now) in
    c.longest_of.ensures order good ∙ ap (λ (p : ℕ). down m (4 * c.args.depth + 4) p 4) c.joined.ensures ∙ down_local m c.args.depth (16 * g.K.Key.num c.args.path + c.args.k)
