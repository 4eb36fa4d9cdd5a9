-- The way down, nibble by nibble: no node of it is missing.
use Rattle.std.proofs.Common.{ℕ, ◌+◌, ◌<◌, sym, ◌∙◌, subst, arith}
use Rattle.prefix.specs.Words.{width}
use Rattle.prefix.specs.Routes.{first}
use Rattle.trie.specs.Shape.{local, Deeper}
use Rattle.trie.specs.Places.{Walk}
use Rattle.grow.proofs.Ahead.{ahead_root, ahead_last, ahead_step, ahead_on}
use Rattle.grow.proofs.Walks.{root_walk, step_found}
use Rattle.grow.proofs.finding.way_end.Goals as goal

pub loop-len-init : goal.loop-len-init
loop-len-init g c =
    let w : ℕ = width g.K.Key.words in
    let some = g.met.K.Key.some in
    let nibble = c.nibble-nibble.ensures in
    let root = ahead_root w c.args.prefix.len (g.K.Key.num c.args.prefix.bits) _ (omega arith) (omega arith) (omega arith) nibble.value nibble.below in
    (omega arith, nibble.value, nibble.below, λ m h n. (0, root.0, root_walk _ _ h (omega arith) root.1))

pub loop-len-preserved : goal.loop-len-preserved
loop-len-preserved g c = (
  c.in_ok-node.ensures.1,
  c.nibble-nibble-in-loop-len.ensures.value,
  c.nibble-nibble-in-loop-len.ensures.below,
  λ m h n.
      let w : ℕ = width g.K.Key.words in
      let l : ℕ = c.args.prefix.len in
      let q : ℕ = first w l (g.K.Key.num c.args.prefix.bits) in
      let so = c.loop-len.invariant.3 m h n in
      let more : 4 < c.loop-len.len = omega arith in
      let y = step_found l q so.0 _ (omega (arith, so.1.whole)) so.2 n (c.loop-len.invariant.1 ∙ ahead_step so.1 more) in
      (so.0 + 1, ahead_on so.1 more _ c.rest-rest.ensures, subst (λ (i : ℕ). Walk w (local m) (Deeper m) l q (so.0 + 1) c.args.nodes.now c.args.count i) (sym c.in_ok-node.ensures.0) y.1),
)

pub returns-in_err-node-clause-end : goal.returns-in_err-node-clause-end
returns-in_err-node-clause-end g c m h some short n =
    let so = c.loop-len.invariant.3 m h n in
    let more : 4 < c.loop-len.len = omega arith in
    let y = step_found _ _ so.0 _ (omega (arith, so.1.whole)) so.2 n (c.loop-len.invariant.1 ∙ ahead_step so.1 more) in
    absurd (c.in_err-node.ensures (omega (arith, so.2.here, so.2.held.fits, c.loop-len.invariant.2)) y.0 y.1.here)

pub returns-clause-end : goal.returns-clause-end
returns-clause-end g c m h some short n =
    let w : ℕ = width g.K.Key.words in
    let l : ℕ = c.args.prefix.len in
    let q : ℕ = first w l (g.K.Key.num c.args.prefix.bits) in
    let so = c.loop-len.invariant.3 m h n in
    subst (λ (d : ℕ). Walk w (local m) (Deeper m) l q d c.args.nodes.now c.args.count c.loop-len.node) (ahead_last so.1 (omega arith)) so.2
