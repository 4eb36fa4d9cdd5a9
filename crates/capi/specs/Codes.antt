-- What the functions for C answer, over what the entries beneath them say. Assumes nothing: these are definitions.
use Rattle.std.specs.Prelude.{◌≡◌, Bool, true, false, List, [], ℕ, ◌+◌, ◌^◌, ◌≤◌, ◌<◌, length}
use Rattle.prefix.specs.Routes.{route_of}
use Rattle.routes.specs.Rows.{slot}
use Rattle.beneath.specs.Parts.{SpanSays}
use Rattle.table.specs.Right.{Right, room, listed, most_nodes, row_length}
use Rattle.table.specs.Entries.{refusal, number, PutEntrySays, TakeAwaySays}
use Rattle.table.specs.declared.entries.Done.{Done}
use Rattle.table.specs.declared.entries.Done.TheVariants.{To, Nowhere, Ready, Full, Without, Refused}

-- an answer as a number: 0 is ready, a refusal its own number, 1000 full, 1001 without
abbrev pub code : Done → ℕ
code Ready = 0
code Full = 1000
code Without = 1001
code (Refused refusal) = number refusal
code (To hop) = 1002
code Nowhere = 1002

-- a route is put as the entry says, and the answer is its number
pub record Puts (old new : List ℕ) (bits len hop r : ℕ) : Type 0 where
  pub done : Done
  pub says : PutEntrySays (refusal bits len hop) old new (route_of bits len hop) done
  pub told : r ≡ code done

-- a route is taken away as the entry says, and the answer is its number
pub record Takes (old new : List ℕ) (len bits r : ℕ) : Type 0 where
  pub done : Done
  pub says : TakeAwaySays old new len bits done
  pub told : r ≡ code done

-- the routes beneath a prefix, by the place of their first number and how many they are
pub record Lies (row : List ℕ) (len bits place count : ℕ) : Type 0 where
  pub from : ℕ
  pub span : SpanSays 1 3 row len bits from (from + count)
  pub begins : place ≡ slot 3 from

-- the length of a row, or 0 where there would be too many nodes
abbrev pub Long : (wanted r : ℕ) → Type 0
Long wanted r = (most_nodes 1 wanted < 2 ^ 32 → r ≡ row_length 1 wanted) × (2 ^ 32 ≤ most_nodes 1 wanted → r ≡ 0)

-- the row is an empty table with so much room; or it is as it was, since its length is another or there would be too many nodes
abbrev pub Makes : (old new : List ℕ) (wanted : ℕ) → Bool → Type 0
Makes old new wanted true = Right 1 new × (listed 1 new ≡ []) × (room new ≡ wanted)
Makes old new wanted false = (length old ≡ row_length 1 wanted → most_nodes 1 wanted < 2 ^ 32 → ⊥) × (new ≡ old)
