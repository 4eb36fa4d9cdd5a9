-- Each command of `text`: a change is that of the row that the vector lends, and what is only read stays.
use Rattle.std.proofs.Common.{ℕ, List, vec_items, sym, subst, arith}
use Rattle.std.proofs.lemmas.List.{with_items_is}
use Rattle.table.specs.Right.{Right}
use Rattle.lines.specs.declared.commands.Command.TheVariants as command
use Rattle.serve.specs.Serves.{Serves}
use Rattle.serve.proofs.Stays.{serves_right}
use Rattle.serve.proofs.commands.execute_basic.Goals as goal

pub returns-in-Put : goal.returns-in-Put
returns-in-Put c =
    let long = c.put.auto.row in
    let lent = c.deref_mut.ensures.len in
    let same = with_items_is c.args.row.now c.put.new.row (omega arith) in
    let says : Serves (vec_items c.args.row.now) c.put.new.row (command.Basic c.args.command) c.put.result = rw (c.in-Put.is, ← c.deref_mut.ensures.value) c.put.ensures in
    record {
      says = subst (λ (l : List ℕ). Serves (vec_items c.args.row.now) l (command.Basic c.args.command) c.put.result) (sym same) says;
      right = λ right. subst (Right 1) (sym same) (serves_right _ _ (command.Basic c.args.command) c.put.result says right);
    }

pub returns-in-Away : goal.returns-in-Away
returns-in-Away c =
    let long = c.away.auto.row in
    let lent = c.deref_mut-in-Away.ensures.len in
    let same = with_items_is c.args.row.now c.away.new.row (omega arith) in
    let says : Serves (vec_items c.args.row.now) c.away.new.row (command.Basic c.args.command) c.away.result = rw (c.in-Away.is, ← c.deref_mut-in-Away.ensures.value) c.away.ensures in
    record {
      says = subst (λ (l : List ℕ). Serves (vec_items c.args.row.now) l (command.Basic c.args.command) c.away.result) (sym same) says;
      right = λ right. subst (Right 1) (sym same) (serves_right _ _ (command.Basic c.args.command) c.away.result says right);
    }
