-- How numbers by chance come one from the other. Assumes nothing: these are definitions.
use Rattle.std.specs.Prelude.{ℕ, ◌*◌, ◌/◌, ◌%◌, ◌^◌, bit_xor}

-- the state after a state: xorshift of 64 bits, first up by 13, then down by 7, then up by 17
abbrev pub stepped : ℕ → ℕ
stepped s =
    let a = bit_xor s (s * 2 ^ 13 % 2 ^ 64) in
    let b = bit_xor a (a / 2 ^ 7) in
    bit_xor b (b * 2 ^ 17 % 2 ^ 64)
