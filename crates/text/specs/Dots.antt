-- How a number is written in four parts, for the readers of `Commands` and of what replies print.
use Rattle.std.specs.Prelude.{ℕ, ◌/◌, ◌%◌, List, ◌++◌, codes, decimal as figures}

-- a number of 32 bits as four decimal parts, the highest byte first
unfoldable pub dots : ℕ → List ℕ
dots x = figures (x / 16777216 % 256) ++ (codes "." ++ (figures (x / 65536 % 256) ++ (codes "." ++ (figures (x / 256 % 256) ++ (codes "." ++ figures (x % 256))))))
