-- What is counted when answers are compared. Assumes nothing: these are definitions.
use Rattle.std.specs.Prelude.{◌≡◌, ℕ, Bool, List, [], ◌∷◌, ◌==◌}
use Rattle.prefix.specs.Routes.{answer}
use Rattle.table.specs.Right.{Right, listed}
use Rattle.table.specs.Answers.{found}
use Rattle.table.specs.Entries.{ApplySays}
use Rattle.table.specs.declared.entries.Done.{Done}
use Rattle.table.specs.declared.entries.Change.{Change}
use Rattle.trials.specs.declared.counts.Counts.{Counts}
use Rattle.trials.specs.Counts.{tried, noted}
use Rattle.trials.specs.Ends.{near_ends}

-- the trie of a row and its list say the same of an address
abbrev pub agree : (row : List ℕ) (address : ℕ) → Bool
agree row x = found 1 row x == answer 32 (listed 1 row) x

-- what is counted after a row is compared at these addresses, one after the other
abbrev pub compared : (row addresses : List ℕ) → Counts → Counts
compared row [] c = c
compared row (x ∷ xs) c = compared row xs (noted c (agree row x))

-- the change was applied, and counted if it was carried out; then the row was compared near the ends of its prefix. Of a right table no difference is counted
pub record Tried (old new : List ℕ) (change : Change) (before after : Counts) : Type 0 where
  pub done : Done
  pub applied : ApplySays old new change done
  pub counted : after ≡ compared new (near_ends change) (tried before done)
  pub differences : Right 1 old → after.differences ≡ before.differences
