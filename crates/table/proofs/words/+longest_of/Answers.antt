-- From long to short, the first length that the list has a route of.
use Rattle.std.proofs.Common.{ℕ, ◌-◌, ap, ◌∙◌, arith}
use Rattle.prefix.specs.Words.{width}
use Rattle.prefix.specs.Map.{hops}
use Rattle.table.specs.Right.{listed}
use Rattle.table.specs.Words.{down}
use Rattle.table.proofs.Cells.{half_below, found_word, missed_word}
use Rattle.table.proofs.words.+longest_of.Goals as goal

pub longest_of-requires : goal.longest_of-requires
longest_of-requires g t c κs within =
    let h = half_below (g.K.Key.num c.args.path) c.args.len (omega arith) c.requires.below in
    (omega (arith, c.decreases), (within, (omega (arith, c.requires.short), (rw c.half.ensures h, omega (arith, c.requires.few)))))

pub returns-in-Some : goal.returns-in-Some
returns-in-Some g t c order good =
    found_word (width g.K.Key.words) (listed g.K.Key.words c.args.table.now) c.args.len (g.K.Key.num c.args.path) _ c.args.more (omega arith) c.placed-bits.ensures c.in-Some.hop good
    (c.in-Some.ensures order)

pub returns-in-None : goal.returns-in-None
returns-in-None g t c order good =
    c.longest_of.ensures order good ∙ ap (λ (p : ℕ). down (hops (width g.K.Key.words) (listed g.K.Key.words c.args.table.now)) (c.args.len - 1) p (c.args.more - 1)) c.half.ensures
    ∙ missed_word (width g.K.Key.words) (listed g.K.Key.words c.args.table.now) c.args.len (g.K.Key.num c.args.path) _ c.args.more (omega arith) c.placed-bits.ensures
    (c.in-None.ensures order)
