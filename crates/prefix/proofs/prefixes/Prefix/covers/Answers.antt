-- Lengths are compared first, then the first bits.
use Rattle.std.proofs.Common.{arith}
use Rattle.std.proofs.lemmas.Bool.Decides.{nat_tests}
use Rattle.prefix.specs.Routes.{matches, beneath}
use Rattle.prefix.proofs.prefixes.Prefix.covers.Goals as goal

pub returns-then-self-other : goal.returns-then-self-other
unfolding beneath matches
returns-then-self-other g c hop = let e = c.matches.ensures hop in grind (arith, nat_tests)

pub returns-else-self-other : goal.returns-else-self-other
unfolding beneath
returns-else-self-other g c hop = grind (arith, nat_tests)
