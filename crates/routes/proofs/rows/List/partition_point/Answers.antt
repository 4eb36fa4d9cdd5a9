-- Each turn halves what is left, and keeps what the test told of the routes on both sides.
use Rattle.std.proofs.Common.{◌≡◌, ℕ, ◌+◌, ◌-◌, ◌/◌, ◌<◌, arith}
use Rattle.routes.specs.Rows.{count_in}
use Rattle.routes.proofs.Lists.{length_routes, read_prefix}
use Rattle.routes.proofs.rows.List.partition_point.Goals as goal

pub loop-low-init : goal.loop-low-init
loop-low-init g c =
    let n = length_routes g.K.Key.words c.args.self.now.stride c.args.self.now.row.now in
    let e = c.extent-high.ensures.count in
    (omega arith, omega arith, λ h. omega arith, λ h. absurd (omega arith), λ h. absurd (omega arith))

pub prefix_at-requires : goal.prefix_at-requires
prefix_at-requires g c =
    let n = length_routes g.K.Key.words c.args.self.now.stride c.args.self.now.row.now in
    let e = c.args.self.now.counted in
    omega (arith, c.loop-low.invariant.1)

pub loop-low-preserved-then-is_left : goal.loop-low-preserved-then-is_left
loop-low-preserved-then-is_left g c =
    let n = length_routes g.K.Key.words c.args.self.now.stride c.args.self.now.row.now in
    let middle : ℕ = c.loop-low.low + (c.loop-low.high - c.loop-low.low) / 2 in
    let less : middle < count_in g.K.Key.words c.args.self.now.stride c.args.self.now.row.now = omega (arith, c.loop-low.invariant.1) in
    let back : middle + 1 - 1 ≡ middle = omega arith in
    let read = read_prefix g.K.Key.words c.args.self.now.stride c.args.self.now.row.now middle _ _ less c.prefix_at.ensures.bits c.prefix_at.ensures.len in (
      omega arith,
      c.loop-low.invariant.1,
      λ h. omega arith,
      λ h. rw back (c.prefix_at.result, read, c.if-is_left.ensures),
      c.loop-low.invariant.4,
    )

pub loop-low-preserved : goal.loop-low-preserved
loop-low-preserved g c =
    let n = length_routes g.K.Key.words c.args.self.now.stride c.args.self.now.row.now in
    let middle : ℕ = c.loop-low.low + (c.loop-low.high - c.loop-low.low) / 2 in
    let less : middle < count_in g.K.Key.words c.args.self.now.stride c.args.self.now.row.now = omega (arith, c.loop-low.invariant.1) in
    let read = read_prefix g.K.Key.words c.args.self.now.stride c.args.self.now.row.now middle _ _ less c.prefix_at.ensures.bits c.prefix_at.ensures.len in (
      c.loop-low.invariant.0,
      omega arith,
      λ h. omega arith,
      c.loop-low.invariant.3,
      λ h. (c.prefix_at.result, read, c.if-is_left.ensures),
    )

pub returns : goal.returns
returns g c =
    let n = length_routes g.K.Key.words c.args.self.now.stride c.args.self.now.row.now in
    let i = c.loop-low.invariant in
    record { low = i.0; high = λ h. omega (arith, i.1, i.2 h); left = i.3; right = λ h. let e : c.loop-low.low ≡ c.loop-low.high = omega (arith, i.2 (omega (arith, i.0))) in rw e (i.4 (omega arith)) }
