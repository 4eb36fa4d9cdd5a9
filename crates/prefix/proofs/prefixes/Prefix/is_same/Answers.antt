-- Lengths are compared first, then the bits.
use Rattle.std.proofs.Common.{arith}
use Rattle.std.proofs.lemmas.Bool.Decides.{nat_tests}
use Rattle.prefix.specs.Routes.{same_prefix}
use Rattle.prefix.proofs.prefixes.Prefix.is_same.Goals as goal

pub returns-then-self-other : goal.returns-then-self-other
unfolding same_prefix
returns-then-self-other g c hop hop' = let e = c.is_same.ensures in grind (arith, nat_tests)

pub returns-else-self-other : goal.returns-else-self-other
unfolding same_prefix
returns-else-self-other g c hop hop' = grind (arith, nat_tests)
