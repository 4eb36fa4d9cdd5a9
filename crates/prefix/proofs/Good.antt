-- What a good list is: its routes are good, and no two have one prefix. For the proofs about lists. Assumes nothing.
use Rattle.std.proofs.Common.{◌≡◌, ℕ, ◌-◌, ◌*◌, ◌%◌, ◌^◌, ◌<◌, ◌≤◌, true, false, eqb, List, [], ◌∷◌, refl, arith}
use Rattle.std.proofs.lemmas.Nat.{div-add-mod', shl-shr}
use Rattle.std.proofs.lemmas.Bool.Decides.{nat_tests}
use Rattle.prefix.specs.Routes.{Route, first, matches, good_prefix, good_route, same_prefix, absent, good, put, away, In}

-- what a good route is, by parts
pub record Fine (w : ℕ) (r : Route) : Type 0 where
  pub short : r.len ≤ w
  pub low : r.bits < 2 ^ w
  pub zeros : r.bits % 2 ^ (w - r.len) ≡ 0
  pub hop_fits : r.hop ≤ 65535

pub fine : (w : ℕ) (r : Route) → good_route w r ≡ true → Fine w r
unfolding good_route good_prefix
fine w r g = record { short = grind (arith, nat_tests); low = grind (arith, nat_tests); zeros = grind (arith, nat_tests); hop_fits = grind (arith, nat_tests) }

-- a prefix's bits against first bits q: moved up, or the prefix's moved down
pub aligned : (w len bits q : ℕ) → good_prefix w len bits ≡ true → eqb bits (q * 2 ^ (w - len)) ≡ eqb (first w len bits) q
unfolding good_prefix
aligned w len bits q g =
    let up = div-add-mod' bits (2 ^ (w - len)) in
    let down = shl-shr q (w - len) in
    grind (arith, nat_tests)

-- a good route matches a key just if its bits are the key's first bits, moved up
pub matches_bits : (w : ℕ) (r : Route) (x : ℕ) → good_route w r ≡ true → matches w r x ≡ eqb r.bits (first w r.len x * 2 ^ (w - r.len))
unfolding matches good_route
matches_bits w r x g = let a = aligned w r.len r.bits (first w r.len x) in grind (arith, nat_tests)

-- each route of a good list is good
pub in_good : (w : ℕ) (rs : List Route) (e : Route) → good w rs ≡ true → In e rs → good_route w e ≡ true
unfolding good
in_good w [] e g i = absurd i
in_good w (r ∷ rs) e g i = let ih = in_good w rs e in grind (arith, nat_tests)

-- no route of the list has an absent prefix
pub absent_in : (r e : Route) (rs : List Route) → absent r rs ≡ true → In e rs → same_prefix r e ≡ false
unfolding absent
absent_in r e [] a i = absurd i
absent_in r e (s ∷ ss) a i = let ih = absent_in r e ss in grind (arith, nat_tests)

-- absent is by the prefix alone
absent_like : (r s : Route) (rs : List Route) → same_prefix r s ≡ true → absent s rs ≡ true → absent r rs ≡ true
unfolding absent same_prefix
absent_like r s [] e a = refl
absent_like r s (t ∷ ts) e a = let ih = absent_like r s ts in grind (arith, nat_tests)

-- what is absent stays so when another prefix is put
absent_put : (s r : Route) (rs : List Route) → same_prefix s r ≡ false → absent s rs ≡ true → absent s (put r rs) ≡ true
unfolding put absent same_prefix
absent_put s r [] n a = grind (arith, nat_tests)
absent_put s r (t ∷ ts) n a = let ih = absent_put s r ts in grind (arith, nat_tests)

-- put leaves a good list good
pub good_put : (w : ℕ) (r : Route) (rs : List Route) → good_route w r ≡ true → good w rs ≡ true → good w (put r rs) ≡ true
unfolding put good absent same_prefix
good_put w r [] gr g = grind (arith, nat_tests)
good_put w r (s ∷ ss) gr g =
    let ih = good_put w r ss in
    let like = absent_like r s ss in
    let apart = absent_put s r ss in
    grind (arith, nat_tests)

-- what is absent stays so when some prefix is taken away
absent_away : (s : Route) (len bits : ℕ) (rs : List Route) → absent s rs ≡ true → absent s (away len bits rs) ≡ true
unfolding away absent
absent_away s len bits [] a = a
absent_away s len bits (t ∷ ts) a = let ih = absent_away s len bits ts in grind (arith, nat_tests)

-- away leaves a good list good
pub good_away : (w len bits : ℕ) (rs : List Route) → good w rs ≡ true → good w (away len bits rs) ≡ true
unfolding away good
good_away w len bits [] g = g
good_away w len bits (s ∷ ss) g =
    let ih = good_away w len bits ss in
    let apart = absent_away s len bits ss in
    grind (arith, nat_tests)
