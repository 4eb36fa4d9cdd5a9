-- A good prefix, part by part.
use Rattle.std.proofs.lemmas.Bool.Decides.{nat_tests}
use Rattle.std.proofs.Common.{arith}
use Rattle.prefix.specs.Routes.{good_prefix}
use Rattle.prefix.proofs.prefixes.Prefix.is_good.Goals as goal

pub returns-then-self-width : goal.returns-then-self-width
unfolding good_prefix
returns-then-self-width g c = let z = c.zero_behind.ensures in grind (arith, nat_tests)

pub returns-else-self-width : goal.returns-else-self-width
unfolding good_prefix
returns-else-self-width g c = grind (arith, nat_tests)
