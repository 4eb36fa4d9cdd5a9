-- `asked`: a command by its first word, for the check.
use Rattle.std.proofs.Common.{sym, ap, ◌∙◌}
use Rattle.std.specs.Option.{option_map}
use Rattle.text.specs.declared.lines.Command.TheVariants.{Table, Away, Look, Beneath}
use Rattle.text.proofs.Asks.{command_none, table_is, put_is, away_is, look_is, beneath_is, other_is}
use Rattle.text.proofs.lines.asked.Goals as goal

pub returns-in_err-verb : goal.returns-in_err-verb
returns-in_err-verb c = c.from_residual.ensures ∙ command_none c.args.line.now c.in_err-verb.ensures.cases

pub returns-in_err-decimal-in-table : goal.returns-in_err-decimal-in-table
returns-in_err-decimal-in-table c =
    c.from_residual-in_err-decimal-in-table.ensures
    ∙ sym (table_is c.args.line.now c.in_ok-verb.verb c.in_ok-verb.rest c.in_ok-verb.ensures.cases c.in-table.is ∙ ap (option_map Table) (sym c.in_err-decimal-in-table.ensures))

pub returns-in_ok-decimal-in-table : goal.returns-in_ok-decimal-in-table
returns-in_ok-decimal-in-table c =
    sym (table_is c.args.line.now c.in_ok-verb.verb c.in_ok-verb.rest c.in_ok-verb.ensures.cases c.in-table.is ∙ ap (option_map Table) (sym c.in_ok-decimal-in-table.ensures))

pub returns-in-put : goal.returns-in-put
returns-in-put c = c.route.ensures ∙ sym (put_is c.args.line.now c.in_ok-verb.verb c.in_ok-verb.rest c.in_ok-verb.ensures.cases c.in-put.is)

pub returns-in_err-bits-in-away : goal.returns-in_err-bits-in-away
returns-in_err-bits-in-away c =
    c.from_residual-in_err-bits-in-away.ensures
    ∙ sym (away_is c.args.line.now c.in_ok-verb.verb c.in_ok-verb.rest c.in_ok-verb.ensures.cases c.in-away.is ∙ ap (option_map (λ p. Away p.0 p.1)) (sym c.in_err-bits-in-away.ensures))

pub returns-in_ok-bits-in-away : goal.returns-in_ok-bits-in-away
returns-in_ok-bits-in-away c =
    sym (away_is c.args.line.now c.in_ok-verb.verb c.in_ok-verb.rest c.in_ok-verb.ensures.cases c.in-away.is ∙ ap (option_map (λ p. Away p.0 p.1)) (sym c.in_ok-bits-in-away.ensures))

pub returns-in_err-dotted-in-look : goal.returns-in_err-dotted-in-look
returns-in_err-dotted-in-look c =
    c.from_residual-in_err-dotted-in-look.ensures
    ∙ sym (look_is c.args.line.now c.in_ok-verb.verb c.in_ok-verb.rest c.in_ok-verb.ensures.cases c.in-look.is ∙ ap (option_map Look) (sym c.in_err-dotted-in-look.ensures))

pub returns-in_ok-dotted-in-look : goal.returns-in_ok-dotted-in-look
returns-in_ok-dotted-in-look c =
    sym (look_is c.args.line.now c.in_ok-verb.verb c.in_ok-verb.rest c.in_ok-verb.ensures.cases c.in-look.is ∙ ap (option_map Look) (sym c.in_ok-dotted-in-look.ensures))

pub returns-in_err-bits-in-beneath : goal.returns-in_err-bits-in-beneath
returns-in_err-bits-in-beneath c =
    c.from_residual-in_err-bits-in-beneath.ensures
    ∙ sym (beneath_is c.args.line.now c.in_ok-verb.verb c.in_ok-verb.rest c.in_ok-verb.ensures.cases c.in-beneath.is ∙ ap (option_map (λ p. Beneath p.0 p.1)) (sym c.in_err-bits-in-beneath.ensures))

pub returns-in_ok-bits-in-beneath : goal.returns-in_ok-bits-in-beneath
returns-in_ok-bits-in-beneath c =
    sym (beneath_is c.args.line.now c.in_ok-verb.verb c.in_ok-verb.rest c.in_ok-verb.ensures.cases c.in-beneath.is ∙ ap (option_map (λ p. Beneath p.0 p.1)) (sym c.in_ok-bits-in-beneath.ensures))

pub returns-in_default : goal.returns-in_default
returns-in_default c = other_is c.args.line.now c.in_ok-verb.verb c.in_ok-verb.rest c.in_ok-verb.ensures.cases c.in_default.not-table c.in_default.not-put c.in_default.not-away c.in_default.not-look c.in_default.not-beneath
