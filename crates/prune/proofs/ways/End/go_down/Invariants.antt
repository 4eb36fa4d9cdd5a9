-- The walk has come to depth d, and what is left of the key is behind d nibbles.
use Rattle.std.proofs.Common.{◌≡◌, ℕ, ◌+◌, ◌*◌}
use Rattle.prefix.specs.Words.{width}
use Rattle.prune.proofs.Walks.{Going}
use Rattle.prune.proofs.ways.End.go_down.Given as goal

abbrev pub invariant-loop-len : goal.invariant-loop-len
invariant-loop-len g l =
    (d : ℕ) × (4 * d + l.len ≡ l.fn.prefix.len)
    × Going (width g.K.Key.words) l.fn.prefix.len (g.K.Key.num l.fn.prefix.bits) l.count l.nodes d (g.K.Key.num l.rest) l.self.last l.self.place l.self.free.numbers l.self.free.left

abbrev pub decreases-loop-len : goal.decreases-loop-len
decreases-loop-len g l = l.len
