-- `quad`: four parts, each of which is read, for the check.
use Rattle.std.proofs.Common.{Some, sym, refl, ap, ◌∙◌}
use Rattle.text.specs.Numerals.{joined}
use Rattle.text.proofs.Quads.{missing_1, missing_2, missing_3, missing_4}
use Rattle.text.proofs.numerals.quad.Goals as goal

pub returns-in-err-octet : goal.returns-in-err-octet
returns-in-err-octet c = c.from-residual.ensures ∙ missing_1 _ _ _ _ _ refl c.in-err-octet.ensures

pub returns-in-err-octet-2 : goal.returns-in-err-octet-2
returns-in-err-octet-2 c = c.from-residual-in-err-octet-2.ensures ∙ missing_2 _ _ _ _ _ refl c.in-err-octet-2.ensures

pub returns-in-err-octet-3 : goal.returns-in-err-octet-3
returns-in-err-octet-3 c = c.from-residual-in-err-octet-3.ensures ∙ missing_3 _ _ _ _ _ refl c.in-err-octet-3.ensures

pub returns-in-err-octet-4 : goal.returns-in-err-octet-4
returns-in-err-octet-4 c = c.from-residual-in-err-octet-4.ensures ∙ missing_4 _ _ _ _ _ refl c.in-err-octet-4.ensures

pub returns : goal.returns
unfolding joined
returns c =
    let h = c.in-ok-octet.ensures in
    let i = c.in-ok-octet-2.ensures in
    let j = c.in-ok-octet-3.ensures in
    let k = c.in-ok-octet-4.ensures in
    ap Some c.from-be-bytes.ensures ∙ sym (simp (sym h, sym i, sym j, sym k))
