-- The proof of `descend`: one step of the code is one nibble of the lookup.
use Rattle.std.proofs.Common.{refl, ◌∙◌, arith}
use Rattle.prefix.specs.Words.{width}
use Rattle.trie.specs.Nodes.{nibbles, looked}
use Rattle.trie.proofs.Steps.{step_past, step_ends, step_on}
use Rattle.trie.proofs.lookup.+descend.Goals as goal

pub returns-then-steps-eq0 : goal.returns-then-steps-eq0
unfolding nibbles looked
returns-then-steps-eq0 g t c = record { small = λ h. absurd (omega arith); value = rw c.if-steps-eq0.true }

pub returns-then-at-saturating_sub : goal.returns-then-at-saturating_sub
returns-then-at-saturating_sub g t c =
    record {
      small = λ h. omega arith;
      value = step_past (width g.K.Key.words) _ _ _ _ _ _ c.if-steps-eq0.false c.nibble.ensures.value (rw c.saturating_sub.ensures at c.if-at-saturating_sub.true);
    }

pub returns-then-next-eq0 : goal.returns-then-next-eq0
returns-then-next-eq0 g t c =
    record {
      small = λ h. omega arith;
      value =
          step_ends (width g.K.Key.words) _ _ _ _ _ _ c.if-steps-eq0.false c.nibble.ensures.value (rw c.saturating_sub.ensures at c.if-at-saturating_sub.false) _ c.or_else-best.ensures c.if-next-eq0.true;
    }

pub returns : goal.returns
returns g t c =
    record {
      small = λ h. omega arith;
      value =
          c.descend.ensures.value
          ∙ step_on (width g.K.Key.words) _ _ _ _ _ _ c.if-steps-eq0.false c.nibble.ensures.value (rw c.saturating_sub.ensures at c.if-at-saturating_sub.false) _ c.or_else-best.ensures _ _ refl c.if-next-eq0.false c.rest.ensures;
    }
