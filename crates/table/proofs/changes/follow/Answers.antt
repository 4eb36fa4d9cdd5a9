-- In place where that is done; else the list, which no step touched, is sound, and the trie is made anew from it.
use Rattle.table.proofs.Lent.{front_trans}
use Rattle.table.proofs.Following.{sound_still}
use Rattle.table.proofs.changes.follow.Goals as goal

pub returns-then-is_none : goal.returns-then-is_none
returns-then-is_none g c =
    let f = c.leave.ensures.front in
    record {
      front = front_trans g.K.Key.words c.args.table.now c.leave.new.table c.rebuild.new.table f c.rebuild.ensures.front;
      right = λ m r good apart there done. (c.rebuild.ensures.right (sound_still g.K.Key.words c.args.table.now c.leave.new.table m r f)).1;
    }
