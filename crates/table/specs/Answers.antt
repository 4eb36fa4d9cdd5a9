-- What the entries of a table answer. Assumes nothing: these are definitions.
use Rattle.std.specs.Prelude.{◌≡◌, ℕ, zero, suc, ◌+◌, ◌*◌, ◌^◌, ◌<◌, ◌≤◌, cond, List, [], length, Ok, Err, Result, nat_le}
use Rattle.prefix.specs.Words.{width}
use Rattle.prefix.specs.Routes.{answer}
use Rattle.prefix.specs.Map.{or_else}
use Rattle.trie.specs.Nodes.{goes, nibbles, looked}
use Rattle.table.specs.Right.{Right, room, default_at, most_nodes, row_length, listed, default, nodes, trie}
use Rattle.table.specs.declared.entries.Done.{Done}
use Rattle.table.specs.declared.entries.Done.TheVariants.{To, Nowhere}
use Rattle.table.specs.declared.makes.Misfit.{Misfit}

-- an answer of the list in words: 0 is nowhere, any other is one more than a hop
abbrev pub told : ℕ → Done
told zero = Nowhere
told (suc hop) = To hop

-- what the trie of a row says to a key, or its default
abbrev pub answers : (words : ℕ) (row : List ℕ) (x : ℕ) → ℕ
answers words row x = or_else (looked (trie words row) 0 (nibbles (width words) (8 * words) x) 0) (default words row)

-- what any row answers to a key, right or not: 0 where it ends before its nodes begin
abbrev pub found : (words : ℕ) (row : List ℕ) (x : ℕ) → ℕ
found words row x = cond (nat_le (default_at words (room row) + 2) (length row)) (answers words row x) 0

-- a right table in plain words: the trie answers each key as the list does, its cells name nodes that there are, and there are at most so many
abbrev pub RightMeans : Type 0
RightMeans =
    (words : ℕ) (row : List ℕ) → 0 < words → Right words row
    → ((x : ℕ) → x < 2 ^ width words → answers words row x ≡ answer (width words) (listed words row) x)
    × ((i k : ℕ) → i < nodes words row → k < 16 → goes (trie words row) i k < nodes words row)
    × (nodes words row + room row ≤ most_nodes words (room row))

-- a row was made an empty table with so much room; or it is as it was, since its length is another, or there would be too many nodes
abbrev pub MakeSays : (words : ℕ) (old new : List ℕ) (wanted : ℕ) → Result (Unit {0}) Misfit → Type 0
MakeSays words old new wanted (Ok done) = Right words new × (listed words new ≡ []) × (room new ≡ wanted)
MakeSays words old new wanted (Err misfit) = (length old ≡ row_length words wanted → most_nodes words wanted < 2 ^ 32 → ⊥) × (new ≡ old)
