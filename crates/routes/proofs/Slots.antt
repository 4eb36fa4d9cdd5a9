-- The places of a row at which its routes stand: the products of stride and number that linear arithmetic does not see. Assumes nothing.
use Rattle.std.proofs.Common.{◌≡◌, ℕ, suc, ◌+◌, ◌-◌, ◌*◌, ◌/◌, ◌<◌, ◌≤◌, true, List, length, get_or, ⊎_elim, mul_comm, mul-suc, add-one, arith}
use Rattle.std.proofs.lemmas.Nat.{div-add-mod', mod_below, mul-le}
use Rattle.std.proofs.lemmas.Bool.{cases_order}
use Rattle.std.proofs.lemmas.Bool.Decides.{nat_tests}
use Rattle.routes.specs.Rows.{slot, listing, count_in, room_in}

-- a route ends where the next begins at the latest
pub next_slot : (stride j k : ℕ) → j < k → stride * j + stride ≤ stride * k
next_slot stride j k h = let e = mul-suc stride j in let m = mul-le stride (suc j) stride k in omega (arith, m (omega arith) h)

pub slots_rise : (stride j k : ℕ) → j ≤ k → stride * j ≤ stride * k
slots_rise stride j k h = mul-le stride j stride k (omega arith) h

pub mul_add_one : (stride k : ℕ) → stride * (k + 1) ≡ stride * k + stride
mul_add_one stride k = let e = mul-suc stride k in rw (add-one k) (omega arith)

-- numbers of two routes stand in two places
pub slots_apart : (stride j k a b : ℕ) → (j ≡ k → ⊥) → a < stride → b < stride → stride * j + a ≡ stride * k + b → ⊥
slots_apart stride j k a b ne la lb e =
    ⊎_elim ne (⊎_elim (λ (h : j < k). omega (arith, next_slot stride j k h)) (λ (h : k < j). omega (arith, next_slot stride k j h))) (cases_order j k)

-- what a row that is a list's has room for
pub record Listing (words stride : ℕ) (row : List ℕ) : Type 0 where
  pub wide : words + 2 ≤ stride
  pub long : slot stride (get_or row 1 0) ≤ length row
  pub fits : get_or row 0 0 ≤ get_or row 1 0
  pub is : listing words stride row ≡ true

-- a row with room is a list's
pub with_room : (words stride : ℕ) (row : List ℕ) (k : ℕ) → k < room_in words stride row → Listing words stride row
with_room words stride row k h = record { wide = grind (arith, nat_tests); long = grind (arith, nat_tests); fits = grind (arith, nat_tests); is = grind (arith, nat_tests) }

pub count_room : (words stride : ℕ) (row : List ℕ) → count_in words stride row ≤ room_in words stride row
count_room words stride row = grind (arith, nat_tests)

pub inside : (words stride : ℕ) (row : List ℕ) (k : ℕ) → k < room_in words stride row → (slot stride k + stride ≤ length row) × (words + 2 ≤ stride)
inside words stride row k h =
    let l = with_room words stride row k h in
    let less : k < get_or row 1 0 = grind (arith, nat_tests) in
    (omega (arith, next_slot stride k (get_or row 1 0) less, l.long), l.wide)

-- a product is tested by its quotient
pub long_by_quotient : (stride room long : ℕ) → 0 < stride → 2 ≤ long → room ≤ (long - 2) / stride → slot stride room ≤ long
long_by_quotient stride room long pos two h =
    let d = div-add-mod' (long - 2) stride in
    let m = mul-le stride room stride ((long - 2) / stride) (omega arith) h in
    let c = mul_comm stride ((long - 2) / stride) in
    omega arith

pub short_by_quotient : (stride room long : ℕ) → 0 < stride → 2 ≤ long → (long - 2) / stride < room → long < slot stride room
short_by_quotient stride room long pos two h =
    let d = div-add-mod' (long - 2) stride in
    let b = mod_below (long - 2) stride pos in
    let m = next_slot stride ((long - 2) / stride) room h in
    let c = mul_comm stride ((long - 2) / stride) in
    omega arith

-- a count is a number of the row
pub count_low : (words stride : ℕ) (row : List ℕ) → count_in words stride row ≤ get_or row 0 0
count_low words stride row = grind (arith, nat_tests)

-- in a row that is a list's the counts are what they say
pub count_is : (words stride : ℕ) (row : List ℕ) → Listing words stride row → count_in words stride row ≡ get_or row 0 0
count_is words stride row l = grind (arith, nat_tests, l.is)

pub room_is : (words stride : ℕ) (row : List ℕ) → Listing words stride row → room_in words stride row ≡ get_or row 1 0
room_is words stride row l = grind (arith, nat_tests, l.is)
