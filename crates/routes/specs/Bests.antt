-- The longest match so far as the two numbers by which a list is gone through. Assumes nothing: these are definitions.
use Rattle.std.specs.Prelude.{ℕ, suc, Some, None, Option}
use Rattle.routes.specs.declared.scans.Match.{Match}

-- 0, or one more than its length
abbrev pub long_of : Option Match → ℕ
long_of None = 0
long_of (Some m) = suc m.len

-- 0, or one more than its hop
abbrev pub hop_of : Option Match → ℕ
hop_of None = 0
hop_of (Some m) = suc m.hop
