-- The test is whether a route comes before the prefix.
use Rattle.std.proofs.Common.{rules, arith}
use Rattle.routes.proofs.rows.List.lower_bound.Goals as goal

pub returns : goal.returns
returns g c =
    let s = c.partition_point.ensures in
    record {
      within = s.high (omega arith);
      below = λ h. let t = s.left h in rw (← t.1) (search rules);
      from = λ h. let t = s.right h in rw (← t.1) (search rules);
    }
