-- Three writes, one behind the other.
use Rattle.std.proofs.Common.{◌∙◌, arith}
use Rattle.std.proofs.lemmas.List.{get_or-set_same, get_or-set_other, length-set}
use Rattle.routes.proofs.Moves.{loaded_same}
use Rattle.routes.proofs.edits.write_at.Goals as goal

pub returns : goal.returns
returns g c =
    record {
      is_bits = loaded_same g.K.Key.words c.args.at c.args.at _ _ (λ i h. grind (arith, get_or-set_other)) ∙ c.store.ensures.value;
      is_len = grind (arith, get_or-set_same, get_or-set_other, length-set);
      is_hop = grind (arith, get_or-set_same, length-set);
      before = λ i h. let e = c.store.ensures.before i h in grind (arith, get_or-set_other);
      behind = λ i h. let e = c.store.ensures.behind i in grind (arith, get_or-set_other);
    }
