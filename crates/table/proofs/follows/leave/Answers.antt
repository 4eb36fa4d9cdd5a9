-- The prefix of no bits is the default's; of every other the words are made new, and then what is empty is given back.
use Rattle.std.proofs.Common.{ℕ, true, List, is_some, refl, arith, rules}
use Rattle.prefix.specs.Words.{width}
use Rattle.table.specs.Follows.{Front, Left}
use Rattle.table.proofs.Lent.{front_trans, of_same}
use Rattle.table.proofs.Following.{good_short, left, defaulted_at}
use Rattle.table.proofs.follows.leave.Goals as goal

pub returns-then-prefix-eq0-clause-right : goal.returns-then-prefix-eq0-clause-right
returns-then-prefix-eq0-clause-right g c =
    let s = rw c.over-parts.ensures.same at c.set_default.ensures.set in
    of_same (λ (t : List ℕ). Left g.K.Key.words c.args.table.now t c.args.prefix.len (g.K.Key.num c.args.prefix.bits) true) _ c.set_default.new.self.row.now (search rules)
    (λ m r good apart there done. defaulted_at g.K.Key.words c.args.table.now c.set_default.new.self.row.now m c.args.prefix.len _ c.if-prefix-eq0.true r s good apart)

pub returns-clause-front : goal.returns-clause-front
returns-clause-front g c =
    let n = rw c.over-parts.ensures.same at c.in_ok-renew_words.ensures.renewed in
    of_same (Front g.K.Key.words c.args.table.now) _ c.give_back.new.self.row.now (search rules) (front_trans g.K.Key.words c.args.table.now _ _ n.beside.front c.give_back.ensures.beside.front)

pub returns-clause-right : goal.returns-clause-right
returns-clause-right g c =
    let n = rw (c.over-parts.ensures.same, c.in_ok-way.ensures.its) at c.in_ok-renew_words.ensures.renewed in
    let found = rw c.over-parts.ensures.same at c.in_ok-way.ensures.end in
    of_same (λ (t : List ℕ). Left g.K.Key.words c.args.table.now t c.args.prefix.len (g.K.Key.num c.args.prefix.bits) (is_some c.give_back.result)) _ c.give_back.new.self.row.now (search rules)
    (λ m r good apart there done.
    left g.K.Key.words c.args.table.now m r c.args.prefix.len _ (omega arith) apart c.renew_words.new.self.row.now c.give_back.new.self.row.now c.in_ok-way.way.node there
    (found m r.trie_is (omega arith) (good_short (width g.K.Key.words) c.args.prefix.len _ good) there) n c.give_back.ensures.beside
    (g.K.Key.num c.args.prefix.bits) refl (λ way. c.give_back.ensures.right _ way done))
