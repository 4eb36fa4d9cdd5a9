-- Nodes in a row of numbers, and what a lookup finds in any row, right or not: for whoever reads the row. Assumes nothing: these are definitions.
use Rattle.std.specs.Prelude.{ℕ, zero, suc, ◌+◌, ◌-◌, ◌*◌, ◌/◌, ◌%◌, ◌^◌, cond, List, [], ◌∷◌, length, ◌==◌, nat_lt, slice_index}
use Rattle.prefix.specs.Map.{or_else}

-- node n is the 32 numbers from 32 n on: sixteen cells of two numbers, one for each nibble; node 0 is the root.
-- the first number of a cell, its word, is 0 or one more than a hop
unfoldable pub said : List ℕ → (node nibble : ℕ) → ℕ
said t n k = slice_index t (32 * n + 2 * k)

-- the second, its link, is 0 or the number of the next node
unfoldable pub goes : List ℕ → (node nibble : ℕ) → ℕ
goes t n k = slice_index t (32 * n + (2 * k + 1))

-- the first so many nibbles of a key of w bits, from the highest
unfoldable pub nibbles : (w steps x : ℕ) → List ℕ
nibbles w zero x = []
nibbles w (suc s) x = x / 2 ^ (w - 4) ∷ nibbles w s (x % 2 ^ (w - 4) * 16)

-- what a lookup finds from a node on, going by nibbles until a cell names no node or lies behind the row's end: the last word that is not 0, or found where there is none
unfoldable pub looked : List ℕ → (node : ℕ) → List ℕ → (found : ℕ) → ℕ
looked t n [] found = found
looked t n (k ∷ ks) found =
    cond (nat_lt (32 * n + (2 * k + 1)) (length t))
    (cond (goes t n k == 0) (or_else (said t n k) found) (looked t (goes t n k) ks (or_else (said t n k) found)))
    found
