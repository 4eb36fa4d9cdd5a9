-- The list as a map from prefixes to hops: for whoever compares another table with the list, one prefix at a time. Assumes nothing: these are definitions.
use Rattle.std.specs.Prelude.{ℕ, zero, suc, ◌-◌, ◌*◌, ◌^◌, cond, ◌&&◌, List, Some, None, Option, ◌==◌}
use Rattle.prefix.specs.Routes.{Route, first, held}

-- a map from prefixes, by length and by their first bits as a number, to 0 or one more than a hop
abbrev pub Hops : Type 0
Hops = ℕ → ℕ → ℕ

-- the map of a list: what it holds of the prefix of l bits that are q
unfoldable pub hops : ℕ → List Route → Hops
hops w rs l q = held l (q * 2 ^ (w - l)) rs

-- a, or b where a is 0
abbrev pub or_else : ℕ → ℕ → ℕ
or_else zero b = b
or_else (suc a) b = suc a

-- a hop or none as one number: 0, or one more than the hop
abbrev pub told : Option ℕ → ℕ
told None = 0
told (Some hop) = suc hop

-- what a map answers to a key by its prefixes of at most l bits, the longest first
unfoldable pub longest : Hops → (w x l : ℕ) → ℕ
longest m w x zero = m 0 (first w 0 x)
longest m w x (suc l) = or_else (m (suc l) (first w (suc l) x)) (longest m w x l)

-- a map with v at one prefix, and else as m
abbrev pub set_at : Hops → (len first v : ℕ) → Hops
set_at m len first v l q = cond (len == l && first == q) v (m l q)
