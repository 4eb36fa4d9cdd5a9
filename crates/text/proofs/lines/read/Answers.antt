-- `read`: lines that are passed over, and commands, for the check.
use Rattle.std.proofs.Common.{◌≡◌, length, sym, ap, ◌∙◌, lit<}
use Rattle.std.specs.Option.{option_map}
use Rattle.std.proofs.lemmas.Str.Pattern.{starts_char}
use Rattle.std.proofs.lemmas.Bool.{eqb-true, eqb-false}
use Rattle.std.proofs.lemmas.Bool.Decides.{not_from_Decides}
use Rattle.text.specs.Commands.{reads, ordered}
use Rattle.text.specs.declared.lines.Line.TheVariants.{Command as Asks}
use Rattle.text.proofs.Remarks.{blank_empty, blank_remark, reads_else}
use Rattle.text.proofs.lines.read.Goals as goal
use Rattle.text.proofs.lines.read.Goals.{Else-starts_with, then-is_empty-via-then-is_empty, then-is_empty-via-else-is_empty+then-starts_with}

pub returns-then-is_empty : goal.returns-then-is_empty
returns-then-is_empty c =
    elim c.then-is_empty.branch [
      | then-is_empty-via-then-is_empty w ↦ blank_empty c.args.line.now (eqb-true (length c.args.line.now) 0 (sym c.is_empty.ensures ∙ w.if-is_empty.true))
      | then-is_empty-via-else-is_empty+then-starts_with w ↦
          let h = starts_char 35 c.args.line.now w.starts_with.result w.starts_with.ensures.cases (lit< tt) (lit< tt) in
          blank_remark c.args.line.now (h.0 w.if-starts_with.true)
    ]

-- a line that is not passed over
told : (c : Else-starts_with) → reads c.args.line.now ≡ option_map Asks (ordered c.args.line.now)
told c =
    let h = starts_char 35 c.args.line.now c.starts_with.result c.starts_with.ensures.cases (lit< tt) (lit< tt) in
    reads_else c.args.line.now (eqb-false (length c.args.line.now) 0 (sym c.is_empty.ensures ∙ c.if-is_empty.false)) (not_from_Decides c.starts_with.result h c.if-starts_with.false)

pub returns-in_err-ordered : goal.returns-in_err-ordered
returns-in_err-ordered c = c.from_residual.ensures ∙ sym (told (goal.at.returns-in_err-ordered c).Else-starts_with ∙ ap (option_map Asks) (sym c.in_err-ordered.ensures))

pub returns : goal.returns
returns c = sym (told (goal.at.returns c).Else-starts_with ∙ ap (option_map Asks) (sym c.in_ok-ordered.ensures))
