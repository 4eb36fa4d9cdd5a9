-- A number of so many bits, moved up to the top, still fits.
use Rattle.std.proofs.Common.{◌≡◌, ◌+◌, ◌-◌, arith}
use Rattle.std.proofs.lemmas.Nat.{shl_below}
use Rattle.prefix.proofs.keys.U32Key.placed.Goals as goal

pub overflow_cast-result-3 : goal.overflow_cast-result-3
overflow_cast-result-3 c =
    let whole : c.args.len + (32 - c.args.len) ≡ 32 = omega arith in
    let low = shl_below c.args.self c.args.len (32 - c.args.len) c.requires.below in
    record { fits = omega (arith, rw whole at low) }
