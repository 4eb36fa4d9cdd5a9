-- There are fewer than 2 ^ 32 routes, so the place fits.
use mathlib.Core.List.{List}
use Prim.Native.Nat.{ℕ, ◌^◌, ◌<◌}
use native.Mathlib.Omega.{arith}
use lib.ListN.{get_or}
use Rattle.beneath.specs.Parts.{SpanSays}
use Rattle.routes.proofs.Lists.{length_routes}
use Rattle.routes.proofs.Slots.{count_low}
use Rattle.capi.proofs.entries.jeghrumo_beneath.Goals as goal

from_low : (row : List ℕ) (len bits from to : ℕ) → get_or row 0 0 < 2 ^ 32 → SpanSays 1 3 row len bits from to → from < 2 ^ 32
from_low row len bits from to low span = omega (arith, length_routes 1 3 row, count_low 1 3 row, span.after, span.within)

pub overflow_mul-result : goal.overflow_mul-result
overflow_mul-result c = let low = from_low c.args.row.now _ _ _ _ (c.type_inv.row 0).fits c.beneath_span-from.ensures in record { fits = omega arith }

pub overflow_add-result : goal.overflow_add-result
overflow_add-result c = let low = from_low c.args.row.now _ _ _ _ (c.type_inv.row 0).fits c.beneath_span-from.ensures in record { fits = omega arith }
