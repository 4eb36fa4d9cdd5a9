-- The words of the cells gone through so far are known.
use Rattle.std.proofs.Common.{◌≡◌, ℕ, ◌+◌, ◌*◌, ◌<◌, true, length, get_or}
use Rattle.prefix.specs.Words.{width}
use Rattle.prefix.specs.Routes.{good, InOrder}
use Rattle.prefix.specs.Map.{hops}
use Rattle.trie.specs.Shape.{local}
use Rattle.table.specs.Right.{listed}
use Rattle.grow.specs.Cells.{bit}
use Rattle.table.proofs.words.words_of.Given as goal

abbrev pub invariant-loop-k : goal.invariant-loop-k
invariant-loop-k g l =
    (length l.words ≡ 16)
    × (InOrder (listed g.K.Key.words l.table) → good (width g.K.Key.words) (listed g.K.Key.words l.table) ≡ true → (k : ℕ) → k < l.k → bit l.mask k ≡ true →
    get_or l.words k 0 ≡ local (hops (width g.K.Key.words) (listed g.K.Key.words l.table)) l.depth (16 * g.K.Key.num l.path + k))
