-- How a refusal is written, for whoever reads what the program prints.
use Rattle.std.specs.Prelude.{ℕ, List, ◌++◌, codes, decimal as figures}
use Rattle.text.specs.declared.refusals.Refusal.{Refusal}
use Rattle.text.specs.declared.refusals.Refusal.TheVariants.{Prefix, Hop, Line}

-- its number and its place
abbrev pub refused : Refusal → List ℕ
refused (Prefix len) = codes "refused 1 at " ++ figures len
refused (Hop hop) = codes "refused 2 at " ++ figures hop
refused (Line line) = codes "refused 3 at " ++ figures line
