-- A length above 32 is no prefix's.
use Rattle.std.proofs.Common.{arith}
use Rattle.std.proofs.lemmas.Bool.Decides.{nat_tests}
use Rattle.prefix.specs.Routes.{good_prefix}
use Rattle.table.proofs.entries.good_prefix.Goals as goal

pub returns-in_err-prefix : goal.returns-in_err-prefix
unfolding good_prefix
returns-in_err-prefix c = let e = c.in_err-prefix.ensures in rw c.from_residual.ensures (grind (arith, nat_tests))
