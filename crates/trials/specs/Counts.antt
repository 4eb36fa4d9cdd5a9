-- What a run counts. Assumes nothing: these are definitions.
use Rattle.std.specs.Prelude.{ℕ, ◌+◌, ◌-◌, ◌^◌, Bool, true, false, min}
use Rattle.table.specs.declared.entries.Done.{Done}
use Rattle.table.specs.declared.entries.Done.TheVariants.{Ready}
use Rattle.trials.specs.declared.counts.Counts.{Counts}

-- one more; the largest number of 64 bits stays
abbrev pub more : ℕ → ℕ
more n = min (n + 1) (2 ^ 64 - 1)

-- before the run
abbrev pub nothing : Counts
nothing = record { changes = 0; compared = 0; differences = 0 }

-- a change that was tried counts if it was carried out
abbrev pub tried : Counts → Done → Counts
tried c Ready = record c { changes = more c.changes }
tried c _ = c

-- what was compared counts, and is a difference if it was not the same
abbrev pub noted : Counts → Bool → Counts
noted c true = record c { compared = more c.compared }
noted c false = record c { compared = more c.compared; differences = more c.differences }
