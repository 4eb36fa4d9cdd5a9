-- What is cut off is closed up.
use Rattle.std.proofs.Common.{ℕ, Some, None, Option, IfSome, length, ap, arith}
use Rattle.prefix.specs.Words.{width}
use Rattle.prune.proofs.Holes.{part_lent, closed}
use Rattle.prune.proofs.prune.Goals as goal

-- what a result has in one form it has in another
after : (r : Option ℕ) (P Q : ℕ → Type 0) → ((n : ℕ) → P n → Q n) → IfSome r P → elim r as (λ _. Type 0) [ Some n ↦ Q n | None ↦ Unit ]
after (Some n) P Q f p = f n p
after None P Q f p = tt

pub returns-then-left-eq0-clause-right : goal.returns-then-left-eq0-clause-right
returns-then-left-eq0-clause-right g c m h =
    (closed c.args.count c.in_ok-numbers.field-0.numbers c.in_ok-numbers.field-0.left c.if-left-eq0.true (omega (arith, h.fits)) (c.in_ok-numbers.ensures.right m h), omega arith)

pub returns-clause-right : goal.returns-clause-right
returns-clause-right g c =
    let free = c.in_ok-numbers.field-0 in
    after c.close_up.result _ _
    (λ n p m h.
    let y = p (width g.K.Key.words) m (part_lent c.args.count free.numbers free.left (omega (arith, ap length c.in_ok-numbers.numbers-is)) (c.in_ok-numbers.ensures.right m h)) in
    (y.0, omega (arith, y.1)))
    c.close_up.ensures
