-- The gap is closed between the place and the end of the list.
use Rattle.std.proofs.Common.{◌≡◌, ℕ, ◌+◌, ◌-◌, ◌*◌, ◌<◌, ◌≤◌, get_or, refl, ap, arith, rules}
use borrow.Rule.Slice.PartMut.{same_len_mid}
use Rattle.routes.specs.Rows.{slot}
use Rattle.routes.proofs.Slots.{slots_rise, mul_add_one, count_low}
use Rattle.routes.proofs.Moves.{lent_closed, taken_by}
use Rattle.routes.proofs.edits.take_at.Goals as goal

-- the route ends where the list does, or before
forward : (k stride count : ℕ) → k < count → slot stride k ≤ slot stride (count - 1)
forward k stride count h = omega (arith, slots_rise stride k (count - 1) (omega arith))

pub returns : goal.returns
returns g c =
    let low = count_low g.K.Key.words c.args.stride c.args.row.now in
    let f = forward c.args.k c.args.stride (get_or c.args.row.now 0 0) (omega arith) in
    let last : get_or c.args.row.now 0 0 ≡ get_or c.args.row.now 0 0 - 1 + 1 = omega arith in
    let end : c.slot_at.result + c.args.stride ≡ slot c.args.stride (get_or c.args.row.now 0 0) =
    omega (arith, mul_add_one c.args.stride (get_or c.args.row.now 0 0 - 1), ap (λ (m : ℕ). c.args.stride * m) last) in
    let o = lent_closed c.args.stride c.slot_at-at.result (c.slot_at.result + c.args.stride) c.args.row.now _ c.close_gap.new.part (omega arith) c.slot_at.ensures.within refl c.close_gap.auto.part c.close_gap.ensures in
    record {
      was = rw (c.slot_at-at.ensures.value, c.words.ensures) refl;
      after = taken_by g.K.Key.words c.args.stride c.args.row.now _ c.args.k _ _ c.requires c.slot_at-at.ensures.value end (same_len_mid _ _ _ _ c.close_gap.auto.part) o;
    }
