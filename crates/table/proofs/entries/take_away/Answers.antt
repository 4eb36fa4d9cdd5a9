-- What taking away says; no good route is longer than 32 bits.
use Rattle.std.proofs.Common.{refl, inr, arith}
use Rattle.table.proofs.Refusals.{too_long}
use Rattle.table.proofs.entries.take_away.Goals as goal

pub returns-in_default : goal.returns-in_default
returns-in_default c right = inr (refl, record { none = too_long c.args.long c.args.bits c.args.table.now right (omega (arith, c.in_default.ensures)); same = refl })
