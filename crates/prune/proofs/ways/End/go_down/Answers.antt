-- Step by step down the way.
use Rattle.std.proofs.Common.{◌≡◌, ℕ, ◌+◌, ◌-◌, ◌*◌, ◌/◌, subst, arith}
use Rattle.prefix.specs.Words.{width}
use Rattle.prune.specs.Walk.{Walked}
use Rattle.prune.proofs.Walks.{going_there, going_on, going_never}
use Rattle.prune.proofs.ways.End.go_down.Goals as goal

pub returns-in_err-go_on : goal.returns-in_err-go_on
returns-in_err-go_on g c =
    let some = g.met.K.Key.some in
    rw c.from_residual.ensures
    (going_never c.loop-len.invariant.2 c.nibble.result (omega arith) c.requires.short (omega (arith, c.loop-len.invariant.1)) c.nibble.ensures.value c.nibble.ensures.below c.in_err-go_on.ensures)

pub loop-len-preserved : goal.loop-len-preserved
loop-len-preserved g c =
    let some = g.met.K.Key.some in
    let few = g.met.K.Key.few in
    let d : ℕ = c.loop-len.invariant.0 in
    let i : 4 * d + c.loop-len.len ≡ c.args.prefix.len = c.loop-len.invariant.1 in
    let v = c.loop-len.invariant.2 in (
      d + 1,
      omega arith,
      rw c.rest-rest.ensures
          (going_on v c.nibble.result (omega arith) c.requires.short (omega arith) c.nibble.ensures.value c.nibble.ensures.below
          c.go_on.new.self.last c.go_on.new.self.place c.go_on.new.self.free.numbers c.go_on.new.self.free.left c.in_ok-go_on.ensures),
    )

pub returns : goal.returns
returns g c =
    let d : ℕ = c.loop-len.invariant.0 in
    let i : 4 * d + c.loop-len.len ≡ c.args.prefix.len = c.loop-len.invariant.1 in
    let v = going_there c.loop-len.invariant.2 (omega arith) in
    let deep = v.deep in
    let e : d ≡ (c.args.prefix.len - 1) / 4 = omega arith in
    subst
    (λ (n : ℕ). Walked (width g.K.Key.words) c.args.prefix.len (g.K.Key.num c.args.prefix.bits) c.args.count c.args.nodes.now n c.loop-len.self.last c.loop-len.self.place c.loop-len.self.free.numbers c.loop-len.self.free.left)
    e v
