-- Each address looked up counts once.
use Rattle.std.proofs.Common.{◌≡◌, ◌+◌, ◌≤◌}
use Rattle.trials.proofs.damage.look_around.Given as goal

abbrev pub invariant-loop : goal.invariant-loop
invariant-loop l = (l.seen.to + l.seen.nowhere ≡ l.fn.seen.to + l.fn.seen.nowhere + l.counter) × (l.counter ≤ 50)
