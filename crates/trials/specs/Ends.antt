-- The addresses at both ends of a change's prefix, and next to them. Assumes nothing: these are definitions.
use Rattle.std.specs.Prelude.{ℕ, ◌+◌, ◌-◌, ◌%◌, ◌^◌, List, [], ◌∷◌, bit_or}
use Rattle.table.specs.declared.entries.Change.{Change}
use Rattle.table.specs.declared.entries.Change.TheVariants.{Put, Away}

-- the bits behind so many, all set, as a number of 32 bits
abbrev pub behind : ℕ → ℕ
behind len = 2 ^ (32 - len) - 1

-- the bits and the length of a change's prefix
abbrev pub prefix_of : Change → ℕ × ℕ
prefix_of (Put bits len hop) = (bits, len)
prefix_of (Away bits len) = (bits, len)

-- the first address, the last, the one before the first and the one after the last; 0 comes after the largest
abbrev pub around : (first last : ℕ) → List ℕ
around first last = first ∷ last ∷ ((first + (2 ^ 32 - 1)) % 2 ^ 32) ∷ ((last + 1) % 2 ^ 32) ∷ []

abbrev pub near_ends : Change → List ℕ
near_ends change = let p = prefix_of change in around p.0 (bit_or p.0 (behind p.1))
