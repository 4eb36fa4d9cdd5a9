-- What is said of the row lent holds of the row that comes back.
use Rattle.std.proofs.Common.{ℕ, List, subst, rules}
use Rattle.prefix.specs.Words.{width}
use Rattle.prefix.specs.Routes.{first}
use Rattle.grow.specs.Ways.{WayMade}
use Rattle.grow.proofs.making.make_way.Goals as goal

pub returns-clause-way : goal.returns-clause-way
returns-clause-way g c m h some short =
    let w : ℕ = width g.K.Key.words in
    let l : ℕ = c.args.prefix.len in
    let q : ℕ = first w l (g.K.Key.num c.args.prefix.bits) in
    subst (λ (t : List ℕ). WayMade w m l q t c.descend.new.self.count c.in_ok-node.node) (search rules) (c.in_ok-node.ensures.way m h)
