-- As many nodes as free numbers are gone.
use Rattle.std.proofs.Common.{◌≡◌, ℕ, ◌+◌, length}
use Rattle.prefix.specs.Map.{Hops}
use Rattle.prune.specs.Free.{Partly}
use Rattle.prune.proofs.hints.Nodes.close_all.Given as goal

abbrev pub invariant-loop-others : goal.invariant-loop-others
invariant-loop-others l =
    (l.self.row.ghost_name ≡ l.initial.self.row.ghost_name) × (l.self.count + length l.initial.free ≡ l.initial.self.count + l.others)
    × ((w : ℕ) (m : Hops) → Partly w m l.initial.self.row.now l.initial.self.count l.initial.free (length l.initial.free) → Partly w m l.self.row.now l.self.count l.free l.others)
