-- The last nibble of a prefix, nibble by nibble.
use Rattle.std.proofs.Common.{◌+◌, arith}
use Rattle.prefix.specs.Words.{width}
use Rattle.prefix.proofs.Nibbles.{fits_width}
use Rattle.grow.proofs.Ahead.{ahead_on}
use Rattle.grow.proofs.Covered.{last_ends}
use Rattle.grow.proofs.masks.+last_nibble.Goals as goal

pub returns-then-len-le4 : goal.returns-then-len-le4
returns-then-len-le4 g t c =
    let some = g.met.K.Key.some in
    record {
      small = fits_width (width g.K.Key.words) (g.K.Key.num c.args.rest) (omega arith) (omega arith);
      below = c.nibble-nibble.ensures.below;
      ends = λ l q d x. last_ends _ x c.if-len-le4.true (omega arith) c.nibble-nibble.ensures.value;
    }

pub returns : goal.returns
returns g t c =
    let some = g.met.K.Key.some in
    record {
      small = fits_width (width g.K.Key.words) (g.K.Key.num c.args.rest) (omega arith) (omega arith);
      below = c.last_nibble.ensures.below;
      ends = λ l q d x. c.last_nibble.ensures.ends l q (d + 1) (ahead_on x c.if-len-le4.false _ c.rest.ensures);
    }
