-- The list is as long as its count says.
use Rattle.std.proofs.Common.{vec_items, sym, refl, ap, ◌∙◌}
use Rattle.routes.proofs.Lists.{length_routes}
use Rattle.lines.specs.declared.commands.Command.TheVariants as command
use Rattle.serve.specs.Serves.{Serves}
use Rattle.serve.specs.declared.replies.Reply.TheVariants.{Listed}
use Rattle.serve.proofs.commands.execute.Goals as goal

pub returns-in-List : goal.returns-in-List
returns-in-List c =
    let n = length_routes 1 3 (vec_items c.args.row.now) in
    let says : Serves (vec_items c.args.row.now) (vec_items c.args.row.now) command.List (Listed c.of.result.count) = (refl, ap Listed (rw (← c.deref.ensures.value) c.of.ensures.count ∙ sym n)) in
    record { says = rw c.in-List.is says; right = λ right. right }
