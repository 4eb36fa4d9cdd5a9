-- A key taken apart by its highest nibble: what its first bits are then, and which are 0. For the proofs of matching, over every width w. Assumes nothing.
use Rattle.std.proofs.Common.{◌≡◌, ℕ, zero, suc, ◌+◌, ◌-◌, ◌*◌, ◌/◌, ◌%◌, ◌^◌, ◌<◌, ◌≤◌, false, ◌&&◌, eqb, sym, ap, ◌∙◌, suc-mul, zero-mul, arith}
use Rattle.std.proofs.lemmas.Nat.{shr-shr, shl-shr, field_of, div-add-mod', mod-pow-add, mod-mul-add, mod_below, mul-le, pow-add, pow_pos}
use Rattle.std.proofs.lemmas.Bool.Decides.{nat_tests}
use Rattle.prefix.specs.Routes.{first}

-- the bits behind the highest nibble, moved up by four
abbrev pub rest_of : (w x : ℕ) → ℕ
rest_of w x = x % 2 ^ (w - 4) * 16

-- fewer than four bits are a part of the nibble
pub first_short : (w len x : ℕ) → len < 4 → 4 ≤ w → first w len x ≡ x / 2 ^ (w - 4) / 2 ^ (4 - len)
first_short w len x h k =
    let e : w - len ≡ (w - 4) + (4 - len) = omega arith in
    ap (λ (s : ℕ). x / 2 ^ s) e ∙ sym (shr-shr x (w - 4) (4 - len))

-- four and more begin with the nibble
pub first_top : (w len x : ℕ) → 4 ≤ len → len ≤ w → first w len x / 2 ^ (len - 4) ≡ x / 2 ^ (w - 4)
first_top w len x h k =
    let e : (w - len) + (len - 4) ≡ w - 4 = omega arith in
    shr-shr x (w - len) (len - 4) ∙ ap (λ (s : ℕ). x / 2 ^ s) e

-- and go on with the first bits of the rest
pub first_low : (w len x : ℕ) → 4 ≤ len → len ≤ w → first w len x % 2 ^ (len - 4) ≡ first w (len - 4) (rest_of w x)
first_low w len x h k =
    let e : (len - 4) + (w - len) ≡ w - 4 = omega arith in
    let f : 4 + (w - len) ≡ w - (len - 4) = omega arith in
    sym (field_of x (len - 4) (w - len)) ∙ ap (λ (s : ℕ). x % 2 ^ s / 2 ^ (w - len)) e
    ∙ ap (λ (y : ℕ). y / 2 ^ (w - len)) (sym (shl-shr (x % 2 ^ (w - 4)) 4))
    ∙ shr-shr (rest_of w x) 4 (w - len) ∙ ap (λ (s : ℕ). rest_of w x / 2 ^ s) f

-- so two keys begin alike just if their nibbles are the same and their rests begin alike
pub apart : (w len x y : ℕ) → 4 ≤ len → len ≤ w → (x / 2 ^ (w - 4) ≡ y / 2 ^ (w - 4) → ⊥) → eqb (first w len x) (first w len y) ≡ false
apart w len x y h k ne =
    let p = first_top w len x h k in
    let q = first_top w len y h k in
    grind (arith, nat_tests)

pub together : (w len x y : ℕ) → 4 ≤ len → len ≤ w → x / 2 ^ (w - 4) ≡ y / 2 ^ (w - 4)
    → eqb (first w len x) (first w len y) ≡ eqb (first w (len - 4) (rest_of w x)) (first w (len - 4) (rest_of w y))
together w len x y h k e =
    let p = first_top w len x h k in
    let q = first_top w len y h k in
    let u = first_low w len x h k in
    let v = first_low w len y h k in
    let a = div-add-mod' (first w len x) (2 ^ (len - 4)) in
    let b = div-add-mod' (first w len y) (2 ^ (len - 4)) in
    grind (arith, nat_tests)

-- what is left of a key behind fewer than four bits
pub tail_short : (w len x : ℕ) → len < 4 → 4 ≤ w → x % 2 ^ (w - len) ≡ (x / 2 ^ (w - 4) % 2 ^ (4 - len)) * 2 ^ (w - 4) + x % 2 ^ (w - 4)
tail_short w len x h k =
    let e : w - len ≡ (4 - len) + (w - 4) = omega arith in
    ap (λ (s : ℕ). x % 2 ^ s) e ∙ mod-pow-add x (4 - len) (w - 4)

none_in_sum : (a p r t : ℕ) → 0 < p → t ≡ a * p + r → eqb t 0 ≡ (eqb a 0 && eqb (r * 16) 0)
none_in_sum zero p r t pos e = let z = zero-mul p in grind (arith, nat_tests)
none_in_sum (suc a) p r t pos e = let z = suc-mul a p in grind (arith, nat_tests)

pub zero_short : (w len x high part rest : ℕ) → len < 4 → 4 ≤ w → high ≡ x / 2 ^ (w - 4) → part ≡ 2 ^ (4 - len) → rest ≡ rest_of w x
    → (eqb (high % part) 0 && eqb rest 0) ≡ eqb (x % 2 ^ (w - len)) 0
zero_short w len x high part rest h k p q r = rw (p, q, r) (sym (none_in_sum _ _ _ _ (pow_pos (w - 4)) (tail_short w len x h k)))

-- and behind four and more: sixteen times as much of the rest
pub tail_long : (w len x : ℕ) → 4 ≤ len → len ≤ w → rest_of w x % 2 ^ (w - (len - 4)) ≡ (x % 2 ^ (w - len)) * 16
tail_long w len x h k =
    let s : ℕ = w - len in
    let j : ℕ = len - 4 in
    let y : ℕ = x % 2 ^ (w - 4) in
    let e : w - j ≡ s + 4 = omega arith in
    let f : w - 4 ≡ j + s = omega arith in
    let low : y % 2 ^ s ≡ x % 2 ^ s =
    ap (λ (n : ℕ). x % 2 ^ n % 2 ^ s) f ∙ ap (λ (n : ℕ). n % 2 ^ s) (mod-pow-add x j s) ∙ mod-mul-add (x / 2 ^ s % 2 ^ j) (2 ^ s) (x % 2 ^ s) (mod_below x (2 ^ s) (pow_pos s)) in
    let up = mod-pow-add (y * 16) s 4 in
    let down = shl-shr y 4 in
    ap (λ (n : ℕ). (y * 16) % 2 ^ n) e ∙ up ∙ rw (down, low) (omega arith)

pub zero_long : (w len x : ℕ) → 4 ≤ len → len ≤ w → eqb (rest_of w x % 2 ^ (w - (len - 4))) 0 ≡ eqb (x % 2 ^ (w - len)) 0
zero_long w len x h k = let e = tail_long w len x h k in grind (arith, nat_tests)

-- a number whose highest nibble is one fits the width
pub fits_width : (w x : ℕ) → 4 ≤ w → x / 2 ^ (w - 4) < 16 → x < 2 ^ w
fits_width w x k h =
    let e : (w - 4) + 4 ≡ w = omega arith in
    let p = pow-add 2 (w - 4) 4 in
    let q = div-add-mod' x (2 ^ (w - 4)) in
    let r = mod_below x (2 ^ (w - 4)) (pow_pos (w - 4)) in
    let b = mul-le (x / 2 ^ (w - 4)) (2 ^ (w - 4)) 15 (2 ^ (w - 4)) in
    let t : x < 2 ^ ((w - 4) + 4) = grind arith in
    rw e at t
