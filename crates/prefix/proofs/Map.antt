-- The map of a good list: put and away change it at one prefix, its members make it, what it holds fits, and it answers as the list does. For the laws and for the crates above. Assumes nothing.
use Rattle.std.proofs.Common.{◌≡◌, ℕ, zero, suc, ◌+◌, ◌-◌, ◌*◌, ◌^◌, ◌<◌, ◌≤◌, true, ◌≢◌, ◌↔◌, List, sym, refl, inl, inr, arith}
use Rattle.std.proofs.lemmas.Nat.{shl-shr, shr_below}
use Rattle.std.proofs.lemmas.Bool.Decides.{nat_tests}
use Rattle.prefix.specs.Routes.{Route, first, matches, answer, good_prefix, good_route, good, put, away, held, In, SameMembers}
use Rattle.prefix.specs.Map.{hops, or_else, longest, set_at}
use Rattle.prefix.specs.Laws.{LongestMatch}
use Rattle.prefix.proofs.Good.{fine, aligned, matches_bits, in_good}
use Rattle.prefix.proofs.Edits.{held_in, held_put, held_away}
use Rattle.prefix.proofs.Found.{answer_found, one_answer}

-- the map after put
pub hops_put : (w : ℕ) (r : Route) (rs : List Route) (l q : ℕ) → good_route w r ≡ true → hops w (put r rs) l q ≡ set_at (hops w rs) r.len (first w r.len r.bits) (suc r.hop) l q
unfolding hops good_route
hops_put w r rs l q gr =
    let h = held_put l (q * 2 ^ (w - l)) r rs in
    let a = aligned w r.len r.bits q in
    grind (arith, nat_tests)

-- the map after away
pub hops_away : (w len bits : ℕ) (rs : List Route) (l q : ℕ) → good_prefix w len bits ≡ true → good w rs ≡ true → hops w (away len bits rs) l q ≡ set_at (hops w rs) len (first w len bits) 0 l q
unfolding hops
hops_away w len bits rs l q p g =
    let h = held_away w l (q * 2 ^ (w - l)) len bits rs in
    let a = aligned w len bits q in
    grind (arith, nat_tests)

same_number : (m n : ℕ) → ((h : ℕ) → (m ≡ suc h) ↔ (n ≡ suc h)) → m ≡ n
same_number zero zero same = refl
same_number zero (suc n) same = (same n).1 refl
same_number (suc m) n same = sym ((same m).0 refl)

-- good lists with the same members have the same map
pub hops_members : (w : ℕ) (rs ss : List Route) (l q : ℕ) → good w rs ≡ true → good w ss ≡ true → SameMembers rs ss → hops w rs l q ≡ hops w ss l q
unfolding hops
hops_members w rs ss l q gr gs same =
    same_number _ _ (λ h.
    let r : Route = record { bits = q * 2 ^ (w - l); len = l; hop = h } in
    let in-rs = held_in w r rs in
    let in-ss = held_in w r ss in
    let onward = same.onward r in
    let back = same.back r in
    grind arith)

-- v at a prefix of l bits, which are q, fits keys of w bits
pub record Sized (w l q v : ℕ) : Type 0 where
  pub short : l ≤ w
  pub low : q < 2 ^ l
  pub hop_fits : v ≤ 65536

sized : (w l q v : ℕ) (rs : List Route) → good w rs ≡ true → held l (q * 2 ^ (w - l)) rs ≡ v → v ≢ 0 → Sized w l q v
sized w l q zero rs g h n = absurd (n refl)
sized w l q (suc hop) rs g h n =
    let r : Route = record { bits = q * 2 ^ (w - l); len = l; hop = hop } in
    let f = fine w r (in_good w rs r g ((held_in w r rs g).0 h)) in
    let whole : l + (w - l) ≡ w = omega arith in
    let low : q * 2 ^ (w - l) < 2 ^ (l + (w - l)) = rw whole f.low in
    record { short = f.short; low = rw shl-shr at (shr_below (q * 2 ^ (w - l)) l (w - l) low); hop_fits = omega arith }

-- what the map of a good list holds fits
pub hops_sized : (w : ℕ) (rs : List Route) (l q : ℕ) → good w rs ≡ true → hops w rs l q ≢ 0 → Sized w l q (hops w rs l q)
unfolding hops
hops_sized w rs l q g n = sized w l q _ rs g refl n

module _ (w : ℕ) (rs : List Route) (x : ℕ) (g : good w rs ≡ true) where
  -- what the list holds of the first l bits of x
  abbrev at : ℕ → ℕ
  at l = held l (first w l x * 2 ^ (w - l)) rs

  -- no route that matches is longer than n
  abbrev Within : ℕ → Type 0
  Within n = (d : Route) → In d rs → matches w d x ≡ true → d.len ≤ n

  -- where it holds nothing of them, no route that matches has l bits
  none_at : (l : ℕ) → at l ≡ 0 → (d : Route) → In d rs → matches w d x ≡ true → d.len ≢ l
  none_at l h d i m e =
      let at-d = held_in w d rs g in
      let b = matches_bits w d x (in_good w rs d g i) in
      grind (arith, nat_tests)

  -- where it holds something, that is a longest match if none that matches is longer
  one_at : (l hop : ℕ) → at l ≡ suc hop → Within l → LongestMatch w rs x (suc hop)
  one_at l hop h all =
      let r : Route = record { bits = first w l x * 2 ^ (w - l); len = l; hop = hop } in
      let i : In r rs = (held_in w r rs g).0 h in
      let b = matches_bits w r x (in_good w rs r g i) in
      inl (r, i, grind (arith, nat_tests), refl, all)

  at_none : (y : ℕ) → at 0 ≡ y → Within 0 → LongestMatch w rs x y
  at_none zero h all = inr (refl, λ d i. let a = all d i in let n = none_at 0 h d i in grind arith)
  at_none (suc hop) h all = one_at 0 hop h all

  at_more : (n y z : ℕ) → at (suc n) ≡ y → Within (suc n) → (Within n → LongestMatch w rs x z) → LongestMatch w rs x (or_else y z)
  at_more n zero z h all shorter = shorter (λ d i m. omega (arith, all d i m, none_at (suc n) h d i m))
  at_more n (suc hop) z h all shorter = one_at (suc n) hop h all

  longest_found : (n : ℕ) → Within n → LongestMatch w rs x (longest (hops w rs) w x n)
  unfolding longest hops
  longest_found zero all = at_none _ refl all
  longest_found (suc n) all = at_more n _ _ refl all (longest_found n)

  -- a good list answers as its map does
  pub answer_longest : answer w rs x ≡ longest (hops w rs) w x w
  answer_longest =
      one_answer w rs x _ _ g (answer_found w rs x) (longest_found w (λ d i m. (fine w d (in_good w rs d g i)).short))
