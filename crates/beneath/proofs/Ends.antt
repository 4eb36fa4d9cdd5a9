-- Where parts of a list end in its row. Assumes nothing.
use Rattle.std.proofs.Common.{◌≡◌, ℕ, ◌+◌, ◌-◌, ◌*◌, ◌<◌, ◌≤◌, List, length, sym, ap, ◌∙◌, mul-add, arith}
use Rattle.routes.specs.Rows.{slot, count_in}
use Rattle.routes.proofs.Slots.{inside, count_room, mul_add_one}

-- as many routes as there are end in the row
pub end_inside : (words stride : ℕ) (row : List ℕ) (k : ℕ) → 0 < k → k ≤ count_in words stride row → slot stride k ≤ length row
end_inside words stride row k pos h =
    let i = inside words stride row (k - 1) (omega (arith, count_room words stride row)) in
    let e : k - 1 + 1 ≡ k = omega arith in
    let s : stride * k ≡ stride * (k - 1) + stride = ap (λ (n : ℕ). stride * n) (sym e) ∙ mul_add_one stride (k - 1) in
    omega (arith, i.0)

-- routes behind routes
pub slots_add : (stride from count : ℕ) → stride * (from + count) ≡ stride * from + stride * count
slots_add stride from count = mul-add stride from count
