-- What is left of the list, with what was found so far, comes to what the whole list comes to.
use Rattle.std.proofs.Common.{◌≡◌, drop}
use Rattle.prefix.specs.Words.{width}
use Rattle.prefix.specs.Routes.{best, answer}
use Rattle.routes.specs.Rows.{routes}
use Rattle.routes.specs.Bests.{long_of, hop_of}
use Rattle.routes.proofs.rows.List.scan.Given as goal

abbrev pub invariant-loop-prefix : goal.invariant-loop-prefix
invariant-loop-prefix g l =
    best (width g.K.Key.words) (drop l.prefix-iterator.next (routes g.K.Key.words l.prefix-iterator.list.stride l.prefix-iterator.list.row.now)) (g.K.Key.num l.key) (long_of l.best) (hop_of l.best)
    ≡ answer (width g.K.Key.words) (routes g.K.Key.words l.self.stride l.self.row.now) (g.K.Key.num l.key)
