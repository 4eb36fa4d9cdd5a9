-- The gap is opened between the place and the end of the list, and the route written into it.
use Rattle.std.proofs.Common.{ℕ, ◌≤◌, get_or, refl, ◌∙◌, arith, rules}
use borrow.Rule.Slice.PartMut.{same_len_mid}
use Rattle.routes.specs.Rows.{slot}
use Rattle.routes.proofs.Slots.{slots_rise, count_low}
use Rattle.routes.proofs.Moves.{lent_opened, added_by}
use Rattle.routes.proofs.edits.add_at.Goals as goal

-- the route's place is not behind the end of the list
forward : (c-k stride count : ℕ) → c-k ≤ count → slot stride c-k ≤ slot stride count
forward k stride count h = omega (arith, slots_rise stride k count h)

pub returns : goal.returns
returns g c =
    let low = count_low g.K.Key.words c.args.stride c.args.row.now in
    let f = forward c.args.k c.args.stride (get_or c.args.row.now 0 0) (omega arith) in
    let o = lent_opened c.args.stride c.slot_at-at.result c.slot_at.result c.args.row.now _ c.open_gap.new.part (omega arith) c.slot_at.ensures.within refl c.open_gap.auto.part c.open_gap.ensures in
    added_by g.K.Key.words c.args.stride c.args.row.now _ c.write_at.new.row c.args.k _ _ _ _ _ c.requires.place c.requires.room c.slot_at-at.ensures.value c.slot_at.ensures.value
    (c.write_at.auto.row ∙ same_len_mid _ _ _ _ c.open_gap.auto.part) o c.write_at.ensures
