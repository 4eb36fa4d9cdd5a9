-- The list is changed, and the trie after it.
use Rattle.std.proofs.Common.{refl, ◌∙◌}
use Rattle.table.proofs.Lent.{front_room, front_listed}
use Rattle.table.proofs.Changing.{away_at, none_at}
use Rattle.table.proofs.changes.away.Goals as goal

pub returns : goal.returns
returns g c right =
    let o = away_at g.K.Key.words c.words.result c.words.ensures c.args.table.now c.remove.new.row right (g.K.Key.num c.args.prefix.bits) c.args.prefix.len c.in_ok-remove.field-0 c.remove.auto.row c.in_ok-remove.ensures.says c.in_ok-remove.ensures.keeps in
    let f = c.follow.ensures.front in
    let list = front_listed g.K.Key.words c.remove.new.row c.follow.new.table f in
    record {
      right = c.follow.ensures.right _ o.mapped o.proper o.apart o.there refl;
      space = front_room g.K.Key.words c.remove.new.row c.follow.new.table f ∙ o.space;
      members = rw list o.members;
      fewer = rw list o.fewer;
    }

pub returns-in_err-remove : goal.returns-in_err-remove
returns-in_err-remove g c right =
    rw c.from_residual.ensures (none_at g.K.Key.words c.words.result c.words.ensures c.args.table.now c.remove.new.row right (g.K.Key.num c.args.prefix.bits) c.args.prefix.len c.in_err-remove.ensures.says)
