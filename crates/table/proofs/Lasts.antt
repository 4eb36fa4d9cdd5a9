-- The last route of a list in order: no longer one shares its cells, so each of these says its hop. Assumes nothing.
use Rattle.std.proofs.Common.{◌≡◌, ℕ, zero, suc, ◌+◌, ◌-◌, ◌*◌, ◌/◌, ◌^◌, ◌<◌, ◌≤◌, true, false, List, length, get_or, sym, ap, ◌∙◌, ⊎_elim, mul-le-mul_right, mul_assoc, arith}
use Rattle.std.proofs.lemmas.Nat.{div-add-mod', pow-add, shr-shr}
use Rattle.std.proofs.lemmas.Bool.{cases_eq, cases_lt}
use Rattle.std.proofs.lemmas.Bool.Decides.{nat_tests}
use Rattle.prefix.specs.Routes.{Route, route_of, no_route, first, same_prefix, good, held, InOrder}
use Rattle.prefix.specs.Map.{Hops, hops}
use Rattle.prefix.proofs.Good.{Fine, fine, in_good}
use Rattle.prefix.proofs.Edits.{held_in}
use Rattle.trie.specs.Shape.{local}
use Rattle.trie.specs.Places.{Covers}
use Rattle.routes.proofs.Order.{held_none}
use Rattle.table.specs.Words.{down}
use Rattle.table.specs.Follows.{Front, Last}
use Rattle.table.proofs.AnewSteps.{in_place}
use Rattle.table.proofs.Cells.{or_some, down_local}
use Rattle.table.proofs.Lent.{front_listed}

-- a map that says nothing of the longer prefixes of a path says what the shorter one does
down_at : (m : Hops) (len q v more l path : ℕ) → len ≤ l → l < len + more → path / 2 ^ (l - len) ≡ q → m len q ≡ v → ((n p : ℕ) → len < n → p / 2 ^ (n - len) ≡ q → m n p ≡ 0) → 0 < v → down m l path more ≡ v
down_at m len q v zero l path low few is there none some = absurd (omega arith)
down_at m len q v (suc more) l path low few is there none some =
    ⊎_elim
    (λ (e : l ≡ len).
    let z : l - len ≡ 0 = omega arith in
    let s = ap (λ (n : ℕ). path / 2 ^ n) z in
    let p : path ≡ q = omega arith in
    let here : m l path ≡ v = rw (e, p) there in
    rw here (sym (or_some v _ (λ z. omega arith))))
    (λ (ne : l ≡ len → ⊥).
    let one : 1 + (l - 1 - len) ≡ l - len = omega arith in
    let next : path / 2 / 2 ^ (l - 1 - len) ≡ q = shr-shr path 1 (l - 1 - len) ∙ ap (λ (n : ℕ). path / 2 ^ n) one ∙ is in
    let here : m l path ≡ 0 = none l path (omega arith) is in
    rw here (down_at m len q v more (l - 1) (path / 2) (omega arith) (omega arith) next there none some))
    (cases_eq l len)

-- what begins with a prefix is not below it
not_below : (w n len p q : ℕ) → len < n → n ≤ w → p / 2 ^ (n - len) ≡ q → q * 2 ^ (w - len) ≤ p * 2 ^ (w - n)
not_below w n len p q more short under =
    let up = div-add-mod' p (2 ^ (n - len)) in
    let least : q * 2 ^ (n - len) ≤ p = rw (← under) (omega arith) in
    let wide = mul-le-mul_right (2 ^ (w - n)) least in
    let e : (n - len) + (w - n) ≡ w - len = omega arith in
    let product = mul_assoc q (2 ^ (n - len)) (2 ^ (w - n)) ∙ ap (λ (x : ℕ). q * x) (sym (pow-add 2 (n - len) (w - n))) ∙ ap (λ (x : ℕ). q * 2 ^ x) e in
    omega arith

module _ (w : ℕ) (rs : List Route) (place bits len hop : ℕ) (proper : good w rs ≡ true) (order : InOrder rs) (ends : place + 1 ≡ length rs) (is : get_or rs place no_route ≡ route_of bits len hop) where
  good_at : (j : ℕ) → j < length rs → Fine w (get_or rs j no_route)
  good_at j h = fine w (get_or rs j no_route) (in_good w rs (get_or rs j no_route) proper (in_place rs j h))

  whole : first w len bits * 2 ^ (w - len) ≡ bits
  whole = let up = div-add-mod' bits (2 ^ (w - len)) in let z = rw is at (good_at place (omega arith)).zeros in omega arith

  last_there : hops w rs len (first w len bits) ≡ suc hop
  unfolding hops
  last_there =
      let there = (held_in w (get_or rs place no_route) rs proper).1 (in_place rs place (omega arith)) in
      ap (λ (b : ℕ). held len b rs) whole ∙ rw is at there

  apart : (n p : ℕ) → len < n → p / 2 ^ (n - len) ≡ first w len bits → (j : ℕ) → j < length rs → same_prefix (get_or rs j no_route) (route_of (p * 2 ^ (w - n)) n 0) ≡ false
  unfolding same_prefix
  apart n p more under j h =
      ⊎_elim
      (λ (e : j ≡ place). rw (e, is) (grind (arith, nat_tests)))
      (λ (ne : j ≡ place → ⊥).
      let short = (good_at j h).short in
      let earlier = rw is at (order j place (omega arith) (omega arith)) in
      ⊎_elim (λ (s : w < n). grind (arith, nat_tests)) (λ (s : n ≤ w). let b = not_below w n len p (first w len bits) more s under in let u = whole in grind (arith, nat_tests)) (cases_lt w n))
      (cases_eq j place)

  last_longest : (n p : ℕ) → len < n → p / 2 ^ (n - len) ≡ first w len bits → hops w rs n p ≡ 0
  unfolding hops
  last_longest n p more under = held_none rs (p * 2 ^ (w - n)) n (apart n p more under)

  -- the words of its cells
  pub last_word : (e c : ℕ) → Covers len (first w len bits) e c → local (hops w rs) e c ≡ suc hop
  last_word e c covers =
      sym (down_local (hops w rs) e c)
      ∙ down_at (hops w rs) len (first w len bits) (suc hop) 4 (4 * e + 4) c covers.short (omega (arith, covers.long)) covers.fits last_there last_longest (omega arith)

  pub last_fits : hop ≤ 65535
  last_fits = rw is at (good_at place (omega arith)).hop_fits

-- it is the last of every row with the same list
pub last_kept : (words : ℕ) (old new : List ℕ) (bits len hop : ℕ) → Front words old new → Last words old bits len hop → Last words new bits len hop
last_kept words old new bits len hop f last = let same = front_listed words old new f in record { place = last.place; ends = rw same last.ends; is = rw same last.is }
