-- The last node is copied, and its cell mended.
use Rattle.std.proofs.Common.{◌≡◌, ℕ, ◌+◌, ◌-◌, ◌*◌, ◌/◌, ◌<◌, ◌≤◌, ◌≢◌, length, get_or, eq-eqb, arith}
use Rattle.prune.proofs.Holes.{moved, copied_over}
use Rattle.prune.proofs.hints.Nodes.move_last.Goals as goal

pub returns-clause-moved : goal.returns-clause-moved
returns-clause-moved c w m h hole live =
    let count : ℕ = c.args.self.now.count in
    let last : ℕ = count - 1 in
    let low : c.args.hole + 1 ≤ last = omega arith in
    let one : count ≡ last + 1 = omega arith in
    let long : 32 * count ≤ length c.copy_within.new.self = omega arith in
    let used : (p : ℕ) → p < length c.args.free.now → get_or c.args.free.now p 0 ≢ c.in_ok-place.place / 32 =
    λ p l e. cc (c.if-contains.ensures.cases p 0 (omega arith) l, eq-eqb (get_or c.args.free.now p 0) (c.in_ok-place.place / 32) e) in
    moved h last c.args.hole c.in_ok-place.place one hole live (omega arith) c.in_ok-place.ensures used
    c.copy_within.new.self c.set_moved.new.self.row.now long
    (copied_over _ _ count c.args.hole last (omega arith) c.copy_within.ensures.by_index.0 c.copy_within.ensures.by_index.1 c.copy_within.ensures.by_index.2)
    (λ x l. c.set_moved.ensures.same x l)
