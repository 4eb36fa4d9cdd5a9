-- The way has come as far as what is left of the prefix says. Each step goes past four bits.
use Rattle.std.proofs.Common.{◌≡◌, ℕ, ◌-◌, ◌/◌, ◌^◌, ◌<◌}
use Rattle.prefix.specs.Words.{width}
use Rattle.prefix.specs.Routes.{first}
use Rattle.prefix.specs.Map.{Hops}
use Rattle.trie.specs.Shape.{local, TrieOf}
use Rattle.trie.specs.Places.{Along, Walk}
use Rattle.grow.specs.Lent.{SameRow}
use Rattle.grow.specs.Ways.{Ahead}
use Rattle.grow.proofs.nodes.Nodes.descend.Given as goal

abbrev pub invariant-loop-len : goal.invariant-loop-len
invariant-loop-len g l =
    let w : ℕ = width g.K.Key.words in
    let n : ℕ = l.fn.prefix.len in
    let q : ℕ = first w n (g.K.Key.num l.fn.prefix.bits) in
    SameRow l.initial.self l.self × (l.nibble ≡ g.K.Key.num l.rest / 2 ^ (w - 4)) × (l.nibble < 16)
    × ((m : Hops) → TrieOf w m l.initial.self.row.now l.initial.self.count → (d : ℕ) × Ahead w n q d l.len (g.K.Key.num l.rest) × Walk w (local m) (Along m n q d) n q d l.self.row.now l.self.count l.node)

abbrev pub decreases-loop-len : goal.decreases-loop-len
decreases-loop-len g l = l.len
