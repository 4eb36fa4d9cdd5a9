-- Keys in a row of numbers: for whoever reads what a key's bits are. A key of k words is one number of 32 k bits, the highest word first. Assumes nothing: these are definitions.
use Rattle.std.specs.Prelude.{ℕ, zero, suc, ◌+◌, ◌*◌, ◌^◌, List, slice_index}

-- the bits of a key of so many words
abbrev pub width : ℕ → ℕ
width words = 32 * words

-- the number that so many words of a row write, from a place on
abbrev pub loaded : (words : ℕ) → List ℕ → (place : ℕ) → ℕ
loaded zero row at = 0
loaded (suc words) row at = slice_index row at * 2 ^ (32 * words) + loaded words row (at + 1)
