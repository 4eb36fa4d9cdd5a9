-- So far the table is right for the routes entered.
use Rattle.std.proofs.Common.{◌≡◌, ℕ, List, get_or}
use Rattle.table.specs.Right.{Sound}
use Rattle.table.specs.Anew.{Alike, Begun}
use Rattle.table.proofs.anew.enter_all.Given as goal

abbrev pub invariant-loop-k : goal.invariant-loop-k
invariant-loop-k g l =
    Alike g.K.Key.words l.initial.table l.table
    × ((whole : List ℕ) → Sound g.K.Key.words whole → l.count ≡ get_or whole 0 0 → Begun g.K.Key.words whole l.initial.table 0 → Begun g.K.Key.words whole l.table l.k)
