-- What the order of a list says of its searches: a prefix stands in one place, or in none. Assumes nothing.
use Rattle.std.proofs.Common.{◌≡◌, ℕ, zero, suc, ◌-◌, ◌<◌, ◌≤◌, true, false, true≢false, List, [], ◌∷◌, length, get_or, Some, None, Ok, Err, Result, is_some, refl, ap, ⊎_elim, arith}
use Rattle.std.specs.Option.{unwrap_or}
use Rattle.std.specs.Result.{result_ok}
use Rattle.std.proofs.lemmas.Bool.{cases_lt, cases_order}
use Rattle.std.proofs.lemmas.Bool.Decides.{nat_tests}
use Rattle.prefix.specs.Routes.{Route, route_of, before, no_route, same_prefix, held, InOrder}
use Rattle.routes.specs.Searches.{Boundary, Found, Missing, SearchSays}

-- what comes before another has not its prefix
pub before_apart : (r s : Route) → before r s ≡ true → same_prefix r s ≡ false
unfolding same_prefix
before_apart r s h = grind (arith, nat_tests)

pub apart_flip : (r s : Route) → same_prefix r s ≡ false → same_prefix s r ≡ false
unfolding same_prefix
apart_flip r s h = grind (arith, nat_tests)

-- of two routes one comes before the other, or they have the same prefix
pub turned : (r s : Route) → before r s ≡ false → same_prefix r s ≡ false → before s r ≡ true
unfolding same_prefix
turned r s h n = grind (arith, nat_tests)

pub before_trans : (r s t : Route) → before r s ≡ true → before s t ≡ true → before r t ≡ true
before_trans r s t h k = grind (arith, nat_tests)

-- the first route with the prefix is what the list holds of it
pub held_first : (rs : List Route) (bits len k : ℕ) → k < length rs → ((j : ℕ) → j < k → same_prefix (get_or rs j no_route) (route_of bits len 0) ≡ false)
    → same_prefix (get_or rs k no_route) (route_of bits len 0) ≡ true → held len bits rs ≡ suc (get_or rs k no_route).hop
unfolding held same_prefix
held_first [] bits len k h none here = absurd (omega arith)
held_first (r ∷ rs) bits len zero h none here = rw here
held_first (r ∷ rs) bits len (suc k) h none here =
    rw (none 0 (omega arith)) (held_first rs bits len k (omega arith) (λ j l. none (suc j) (omega arith)) here)

pub held_none : (rs : List Route) (bits len : ℕ) → ((j : ℕ) → j < length rs → same_prefix (get_or rs j no_route) (route_of bits len 0) ≡ false) → held len bits rs ≡ 0
unfolding held same_prefix
held_none [] bits len none = refl
held_none (r ∷ rs) bits len none = rw (none 0 (omega arith)) (held_none rs bits len (λ j l. none (suc j) (omega arith)))

-- in a list in order, no route on either side of a prefix's place has it
module _ (rs : List Route) (bits len k : ℕ) (order : InOrder rs) (place : Boundary rs bits len k) where
  pub below_before : (j : ℕ) → j < k → before (get_or rs j no_route) (route_of bits len 0) ≡ true
  below_before j h =
      let near = place.below (omega arith) in
      ⊎_elim (λ (e : j ≡ k - 1). rw e near)
      (⊎_elim (λ (l : j < k - 1). before_trans (get_or rs j no_route) (get_or rs (k - 1) no_route) (route_of bits len 0) (order j (k - 1) l (omega (arith, place.within))) near) (λ (l : k - 1 < j). absurd (omega arith)))
      (cases_order j (k - 1))

  pub above_before : (k < length rs → same_prefix (get_or rs k no_route) (route_of bits len 0) ≡ false) → (j : ℕ) → k ≤ j → j < length rs → before (route_of bits len 0) (get_or rs j no_route) ≡ true
  above_before other j h l =
      let near = turned (get_or rs k no_route) (route_of bits len 0) (place.from (omega arith)) (other (omega arith)) in
      ⊎_elim (λ (e : k ≡ j). rw (← e) near)
      (⊎_elim (λ (m : k < j). before_trans (route_of bits len 0) (get_or rs k no_route) (get_or rs j no_route) near (order k j m l)) (λ (m : j < k). absurd (omega arith)))
      (cases_order k j)

  pub misses : (k < length rs → same_prefix (get_or rs k no_route) (route_of bits len 0) ≡ false) → (j : ℕ) → j < length rs → same_prefix (get_or rs j no_route) (route_of bits len 0) ≡ false
  misses other j l =
      ⊎_elim (λ (h : j < k). before_apart _ _ (below_before j h))
      (λ (h : k ≤ j). apart_flip (route_of bits len 0) (get_or rs j no_route) (before_apart _ _ (above_before other j h l)))
      (cases_lt j k)

pub found : (rs : List Route) (bits len k : ℕ) → k < length rs → same_prefix (get_or rs k no_route) (route_of bits len 0) ≡ true → Found rs bits len k
unfolding same_prefix
found rs bits len k h same =
    record {
      within = h;
      is_bits = grind (arith, nat_tests);
      is_len = grind (arith, nat_tests);
      held_there = λ order. held_first rs bits len k h (λ j l. let o = order j k l h in grind (arith, nat_tests)) same;
    }

pub missing : (rs : List Route) (bits len k : ℕ) → Boundary rs bits len k → (k < length rs → same_prefix (get_or rs k no_route) (route_of bits len 0) ≡ false) → Missing rs bits len k
missing rs bits len k place other =
    record { place = place; other = other; none = λ order. held_none rs bits len (misses rs bits len k order place other) }

-- a search whose place is taken for granted found the prefix there
pub found_there : (rs : List Route) (bits len : ℕ) (r : Result ℕ ℕ) → SearchSays rs bits len r → (k : ℕ) → Some k ≡ result_ok r → Found rs bits len k
found_there rs bits len (Ok j) s k e = let same : k ≡ j = ap (λ p. unwrap_or p 0) e in rw same s
found_there rs bits len (Err j) s k e = absurd (true≢false (ap is_some e))

-- and one whose place is not there found that the prefix is missing
pub missing_there : (rs : List Route) (bits len : ℕ) (r : Result ℕ ℕ) → SearchSays rs bits len r → result_ok r ≡ None → (k : ℕ) × Missing rs bits len k
missing_there rs bits len (Ok j) s e = absurd (true≢false (ap is_some e))
missing_there rs bits len (Err j) s e = (j, s)
