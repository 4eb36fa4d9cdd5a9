-- The prefix of no bits is the default's; of every other the way is made, and then the words.
use Rattle.std.proofs.Common.{ℕ, true, List, is_some, refl, arith, rules}
use Rattle.std.proofs.lemmas.Bool.{both_ways}
use Rattle.prefix.specs.Words.{width}
use Rattle.table.specs.Follows.{Front, Entered, Last}
use Rattle.table.proofs.Lasts.{last_kept}
use Rattle.table.proofs.Lent.{front_trans, of_same}
use Rattle.table.proofs.Following.{good_short, entered, defaulted_at}
use Rattle.table.proofs.follows.enter_last.Goals as goal

pub returns-then-prefix-eq0-clause-right : goal.returns-then-prefix-eq0-clause-right
returns-then-prefix-eq0-clause-right g c =
    let s = rw c.over-parts.ensures.same at c.set_default.ensures.set in
    of_same (λ (t : List ℕ). Last g.K.Key.words c.args.table.now (g.K.Key.num c.args.prefix.bits) c.args.prefix.len c.args.hop → Entered g.K.Key.words c.args.table.now t c.args.prefix.len (g.K.Key.num c.args.prefix.bits) true) _ c.set_default.new.self.row.now (search rules)
    (λ last m r good apart there. (refl, defaulted_at g.K.Key.words c.args.table.now c.set_default.new.self.row.now m c.args.prefix.len _ c.if-prefix-eq0.true r s good apart))

pub returns-in_err-way-clause-right : goal.returns-in_err-way-clause-right
returns-in_err-way-clause-right g c last m r good apart there =
    let w = rw c.over-parts.ensures.same at c.in_err-way.ensures.enough in
    absurd (both_ways _ refl (w m r (omega arith) (good_short (width g.K.Key.words) c.args.prefix.len _ good) apart there))

pub returns-clause-front : goal.returns-clause-front
returns-clause-front g c =
    let b = rw c.over-parts.ensures.same at c.in_ok-way.ensures.beside in
    of_same (Front g.K.Key.words c.args.table.now) _ c.write_last.new.self.row.now (search rules) (front_trans g.K.Key.words c.args.table.now _ _ b.front c.write_last.ensures.beside.front)

pub returns-clause-right : goal.returns-clause-right
returns-clause-right g c =
    let b = rw c.over-parts.ensures.same at c.in_ok-way.ensures.beside in
    let way = rw c.over-parts.ensures.same at c.in_ok-way.ensures.way in
    of_same (λ (t : List ℕ). Last g.K.Key.words c.args.table.now (g.K.Key.num c.args.prefix.bits) c.args.prefix.len c.args.hop → Entered g.K.Key.words c.args.table.now t c.args.prefix.len (g.K.Key.num c.args.prefix.bits) (is_some c.write_last.result)) _ c.write_last.new.self.row.now (search rules)
    (λ last m r good apart there.
    entered g.K.Key.words c.args.table.now m r c.args.prefix.len _ (omega arith) apart _ _ c.in_ok-way.way.node (is_some c.write_last.result) there b
    (way m r.trie_is (omega arith) (good_short (width g.K.Key.words) c.args.prefix.len _ good)) ((rw c.in_ok-way.ensures.its at c.write_last.ensures.renewed) (last_kept g.K.Key.words c.args.table.now _ _ _ _ b.front last)))
