-- Each row counts as often as addresses are looked up in it.
use Rattle.std.proofs.Common.{◌≡◌, ◌+◌, ◌*◌, ◌≤◌}
use Rattle.trials.proofs.damage.look_everywhere.Given as goal

abbrev pub invariant-loop : goal.invariant-loop
invariant-loop l = (l.seen.to + l.seen.nowhere ≡ 50 * l.counter) × (l.counter ≤ 2000)
