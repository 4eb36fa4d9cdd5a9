-- So many bits of a number of 32 are one of so many.
use Rattle.std.proofs.Common.{◌≡◌, ◌+◌, ◌-◌, ◌^◌, ◌<◌, refl, arith}
use Rattle.std.proofs.lemmas.Nat.{shr_below}
use Rattle.prefix.proofs.keys.U32Key.first.Goals as goal

pub returns : goal.returns
returns c =
    let whole : c.args.len + (32 - c.args.len) ≡ 32 = omega arith in
    let low : c.args.self < 2 ^ (c.args.len + (32 - c.args.len)) = rw whole (omega arith) in
    record { value = refl; below = shr_below c.args.self c.args.len (32 - c.args.len) low }
