-- `dotted`: the dots between the parts, for the check.
use Rattle.std.proofs.Common.{sym, ◌∙◌}
use Rattle.text.proofs.Quads.{none_a, none_b, none_c, four}
use Rattle.text.proofs.numerals.dotted.Goals as goal

pub returns-in_err-a : goal.returns-in_err-a
returns-in_err-a c = c.from_residual.ensures ∙ none_a c.args.text.now c.in_err-a.ensures.cases

pub returns-in_err-b : goal.returns-in_err-b
returns-in_err-b c = c.from_residual-in_err-b.ensures ∙ none_b c.args.text.now c.in_ok-a.a c.in_ok-a.rest c.in_ok-a.ensures.cases c.in_err-b.ensures.cases

pub returns-in_err-c : goal.returns-in_err-c
returns-in_err-c c =
    c.from_residual-in_err-c.ensures
    ∙ none_c c.args.text.now c.in_ok-a.a c.in_ok-a.rest c.in_ok-b.b c.in_ok-b.rest c.in_ok-a.ensures.cases c.in_ok-b.ensures.cases c.in_err-c.ensures.cases

pub returns : goal.returns
returns c =
    c.quad.ensures
    ∙ sym (four c.args.text.now c.in_ok-a.a c.in_ok-a.rest c.in_ok-b.b c.in_ok-b.rest c.in_ok-c.c c.in_ok-c.d c.in_ok-a.ensures.cases c.in_ok-b.ensures.cases c.in_ok-c.ensures.cases)
