-- The list is changed, and the trie after it.
use Rattle.std.proofs.Common.{◌∙◌}
use Rattle.std.proofs.lemmas.Result.{err_from_is_err_and}
use Rattle.prefix.specs.Words.{width}
use Rattle.prefix.specs.Routes.{route_of}
use Rattle.table.proofs.Lent.{front_room, front_listed}
use Rattle.table.proofs.Changing.{put_at, full_at, prefix_good}
use Rattle.table.proofs.changes.put.Goals as goal

pub returns : goal.returns
returns g c right good =
    let o = put_at g.K.Key.words c.words.result c.words.ensures c.args.table.now c.insert.new.row right (route_of (g.K.Key.num c.args.prefix.bits) c.args.prefix.len c.args.hop) c.in_ok-insert.field-0 c.insert.auto.row good c.in_ok-insert.ensures.says c.in_ok-insert.ensures.keeps in
    let f = c.enter.ensures.front in
    record {
      right = (c.enter.ensures.right _ o.mapped (prefix_good (width g.K.Key.words) (route_of (g.K.Key.num c.args.prefix.bits) c.args.prefix.len c.args.hop) good) o.apart o.there).1;
      space = front_room g.K.Key.words c.insert.new.row c.enter.new.table f ∙ o.space;
      members = rw (front_listed g.K.Key.words c.insert.new.row c.enter.new.table f) o.members;
    }

pub returns-in_err-insert : goal.returns-in_err-insert
returns-in_err-insert g c right good =
    let p = err_from_is_err_and c.from_residual.result c.from_residual.ensures.1 in
    rw p.1 (full_at g.K.Key.words c.words.result c.words.ensures c.args.table.now c.insert.new.row right (route_of (g.K.Key.num c.args.prefix.bits) c.args.prefix.len c.args.hop) c.in_err-insert.field-0.0 c.in_err-insert.ensures.says c.in_err-insert.ensures.keeps)
