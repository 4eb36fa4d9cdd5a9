-- A length above the width is as good as the width.
use Rattle.std.proofs.Common.{◌≡◌, ◌-◌, ◌∙◌, arith}
use Rattle.prefix.specs.Words.{width}
use Rattle.prefix.specs.Routes.{matches}
use Rattle.prefix.proofs.prefixes.Prefix.matches.Goals as goal
use Rattle.prefix.proofs.prefixes.Prefix.matches.Goals.{then-self-most, else-self-most}

pub returns : goal.returns
unfolding matches
returns g c hop =
    let e : width g.K.Key.words - c.if-self-most.len ≡ width g.K.Key.words - c.args.self.len =
    elim c.if-self-most.branch [ then-self-most w ↦ omega (arith, w.len-is) | else-self-most w ↦ omega (arith, w.len-is) ] in
    c.begins.ensures ∙ rw e
