-- The way down, nibble by nibble.
use Rattle.std.proofs.Common.{ℕ, ◌+◌, ◌<◌, length, refl, ◌∙◌, subst, arith}
use Rattle.std.proofs.lemmas.Bool.{both_ways}
use Rattle.prefix.specs.Words.{width}
use Rattle.prefix.specs.Routes.{first}
use Rattle.trie.specs.Shape.{local}
use Rattle.trie.specs.Places.{Along, Walk}
use Rattle.grow.specs.Ways.{Enough}
use Rattle.grow.proofs.Ahead.{ahead_root, ahead_last, ahead_step, ahead_on}
use Rattle.grow.proofs.Rooms.{next_room}
use Rattle.grow.proofs.Walks.{walk_start}
use Rattle.grow.proofs.nodes.Nodes.descend.Goals as goal

pub loop-len-init : goal.loop-len-init
loop-len-init g c =
    let w : ℕ = width g.K.Key.words in
    let some = g.met.K.Key.some in
    let nibble = c.nibble-nibble.ensures in
    let root = ahead_root w c.args.prefix.len (g.K.Key.num c.args.prefix.bits) _ (omega arith) c.requires.some c.requires.short nibble.value nibble.below in
    (record { lent = refl; long = refl }, nibble.value, nibble.below, λ m h. (0, root.0, walk_start _ _ h c.requires.some root.1))

pub loop-len-preserved : goal.loop-len-preserved
loop-len-preserved g c = (
  record { lent = c.step_down.ensures.row.lent ∙ c.loop-len.invariant.0.lent; long = c.step_down.ensures.row.long ∙ c.loop-len.invariant.0.long },
  c.nibble-nibble-in-loop-len.ensures.value,
  c.nibble-nibble-in-loop-len.ensures.below,
  λ m h.
      let so = c.loop-len.invariant.3 m h in
      let more : 4 < c.loop-len.len = omega arith in
      let s = c.in_ok-node.ensures.way (width g.K.Key.words) m _ _ so.0 so.2 (omega (arith, so.1.whole)) so.1.short (c.loop-len.invariant.1 ∙ ahead_step so.1 more) in
      (so.0 + 1, ahead_on so.1 more _ c.rest-rest.ensures, s),
)

pub returns-in_err-node-clause-enough : goal.returns-in_err-node-clause-enough
returns-in_err-node-clause-enough g c m rs h apart n room =
    let some = g.met.K.Key.some in
    let so = c.loop-len.invariant.3 m h in
    let more : 4 < c.loop-len.len = omega arith in
    let e = c.loop-len.invariant.1 ∙ ahead_step so.1 more in
    let size : Enough g.K.Key.words rs (length c.loop-len.self.row.now) = record { long = omega (arith, room.long, c.loop-len.invariant.0.long); small = room.small } in
    absurd (both_ways _ refl (c.in_err-node.ensures.enough (omega (arith, so.2.here, so.2.held.fits, c.loop-len.invariant.2)) (next_room rs _ _ so.0 _ some so.2 (omega (arith, so.1.whole)) so.1.short apart n size e)))

pub returns-clause-way : goal.returns-clause-way
returns-clause-way g c m h =
    let w : ℕ = width g.K.Key.words in
    let l : ℕ = c.args.prefix.len in
    let q : ℕ = first w l (g.K.Key.num c.args.prefix.bits) in
    let so = c.loop-len.invariant.3 m h in
    subst (λ (d : ℕ). Walk w (local m) (Along m l q d) l q d c.loop-len.self.row.now c.loop-len.self.count c.loop-len.node) (ahead_last so.1 (omega arith)) so.2
