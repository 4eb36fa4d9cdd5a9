-- Why the routes beneath a prefix stand together in a good list in order. Assumes nothing.
use Rattle.std.proofs.Common.{◌≡◌, ℕ, zero, suc, ◌+◌, ◌-◌, ◌*◌, ◌%◌, ◌^◌, ◌<◌, ◌≤◌, Bool, true, false, ◌&&◌, ltb, leb, List, [], ◌∷◌, length, get_or, take, drop, sym, refl, ap, ◌∙◌, subst, inl, inr, ⊎_elim, mul-zero, arith}
use Rattle.std.proofs.lemmas.Nat.{div-add-mod', mod-pow-add, le-div, pow_pos}
use Rattle.std.proofs.lemmas.Bool.{cases_lt, cases_order}
use Rattle.std.proofs.lemmas.Bool.Decides.{nat_tests}
use Rattle.prefix.specs.Routes.{Route, route_of, first, good_route, good, before, beneath, no_route, In, InOrder}
use Rattle.prefix.specs.Words.{width}
use Rattle.prefix.proofs.Good.{fine, in_good}
use Rattle.routes.specs.Rows.{slot, routes}
use Rattle.routes.specs.Searches.{Boundary}
use Rattle.routes.proofs.Order.{before_trans}
use Rattle.beneath.specs.Parts.{SpanSays, PartTaken, PartSays, End}

-- what is 0 behind fewer bits is 0 behind more
zero_behind : (w short len x : ℕ) → short ≤ len → len ≤ w → x % 2 ^ (w - short) ≡ 0 → x % 2 ^ (w - len) ≡ 0
zero_behind w short len x h k z =
    let e : w - short ≡ (len - short) + (w - len) = omega arith in
    let s = ap (λ (n : ℕ). x % 2 ^ n) e ∙ mod-pow-add x (len - short) (w - len) in
    omega arith

in_place : (rs : List Route) (k : ℕ) → k < length rs → In (get_or rs k no_route) rs
in_place [] k h = absurd (omega arith)
in_place (r ∷ rs) zero h = inl refl
in_place (r ∷ rs) (suc k) h = inr (in_place rs k (omega arith))

module _ (w len bits start : ℕ) (short : len ≤ w) (starts : start ≡ first w len bits * 2 ^ (w - len)) where
  -- what comes before the prefix does not lie beneath it
  pub below_not : (r : Route) → before r (route_of start len 0) ≡ true → beneath w len bits r ≡ false
  unfolding beneath
  below_not r b = let up = div-add-mod' r.bits (2 ^ (w - len)) in grind (arith, nat_tests)

  -- a good route that does not come before the prefix, and begins so, is as long
  long_enough : (r : Route) → good_route w r ≡ true → before r (route_of start len 0) ≡ false → first w len r.bits ≡ first w len bits → r.len < len → ⊥
  long_enough r g b e h =
      let up = div-add-mod' r.bits (2 ^ (w - len)) in
      let z = zero_behind w r.len len r.bits (omega arith) short (fine w r g).zeros in
      grind (arith, nat_tests)

  -- of two routes that do not come before the prefix, the earlier lies beneath it if the later does
  pub between : (r s : Route) → good_route w r ≡ true → before r (route_of start len 0) ≡ false → r.bits ≤ s.bits → beneath w len bits s ≡ true → beneath w len bits r ≡ true
  unfolding beneath
  between r s g b o t =
      let pos = pow_pos (w - len) in
      let up = div-add-mod' r.bits (2 ^ (w - len)) in
      let from : start ≤ r.bits = grind (arith, nat_tests) in
      let low = le-div (first w len bits) r.bits (2 ^ (w - len)) pos (omega arith) in
      let high = le-div (first w len r.bits) s.bits (2 ^ (w - len)) pos (omega arith) in
      let same : first w len s.bits ≡ first w len bits = grind (arith, nat_tests) in
      let e : first w len r.bits ≡ first w len bits = omega arith in
      ⊎_elim (λ (h : r.len < len). absurd (long_enough r g b e h)) (λ (h : len ≤ r.len). grind (arith, nat_tests)) (cases_lt r.len len)

  -- so in a good list in order those beneath are just the routes between the two places
  module _ (rs : List Route) (from to : ℕ) (proper : good w rs ≡ true) (order : InOrder rs) (place : Boundary rs start len from) (end : End w rs len bits from to) where
    good_at : (i : ℕ) → i < length rs → good_route w (get_or rs i no_route) ≡ true
    good_at i h = in_good w rs (get_or rs i no_route) proper (in_place rs i h)

    ordered : (i j : ℕ) → i ≤ j → j < length rs → (get_or rs i no_route).bits ≤ (get_or rs j no_route).bits
    ordered i j h l =
        ⊎_elim (λ (e : i ≡ j). let s = ap (λ (n : ℕ). (get_or rs n no_route).bits) e in omega arith)
        (⊎_elim (λ (m : i < j). let o = order i j m l in grind (arith, nat_tests)) (λ (m : j < i). absurd (omega arith)))
        (cases_order i j)

    before_start : (i : ℕ) → i < from → before (get_or rs i no_route) (route_of start len 0) ≡ true
    before_start i h =
        let near = place.below (omega arith) in
        ⊎_elim (λ (e : i ≡ from - 1). rw e near)
        (⊎_elim (λ (l : i < from - 1). before_trans (get_or rs i no_route) (get_or rs (from - 1) no_route) (route_of start len 0) (order i (from - 1) l (omega (arith, place.within))) near) (λ (l : from - 1 < i). absurd (omega arith)))
        (cases_order i (from - 1))

    not_before : (r s : Route) → before r s ≡ true → before r (route_of start len 0) ≡ false → before s (route_of start len 0) ≡ false
    not_before r s o h = grind (arith, nat_tests)

    from_start : (i : ℕ) → from ≤ i → i < length rs → before (get_or rs i no_route) (route_of start len 0) ≡ false
    from_start i h l =
        let near = place.from (omega arith) in
        ⊎_elim (λ (e : from ≡ i). rw (← e) near)
        (⊎_elim (λ (m : from < i). not_before (get_or rs from no_route) (get_or rs i no_route) (order from i m l) near) (λ (m : i < from). absurd (omega arith)))
        (cases_order from i)

    inside : (i : ℕ) → from ≤ i → i < to → beneath w len bits (get_or rs i no_route) ≡ true
    inside i h l =
        let n = end.within in
        between (get_or rs i no_route) (get_or rs (to - 1) no_route) (good_at i (omega arith)) (from_start i h (omega arith)) (ordered i (to - 1) (omega arith) (omega arith)) (end.below (omega arith))

    not_true : (b : Bool) → (b ≡ true → ⊥) → b ≡ false
    not_true true n = absurd (n refl)
    not_true false n = refl

    beyond : (i : ℕ) → to ≤ i → i < length rs → beneath w len bits (get_or rs i no_route) ≡ false
    beyond i h l =
        let a = end.after in
        let last = end.beyond (omega arith) in
        not_true (beneath w len bits (get_or rs i no_route)) (λ t.
        let u = between (get_or rs to no_route) (get_or rs i no_route) (good_at to (omega arith)) (from_start to a (omega arith)) (ordered to i h l) t in grind (arith, nat_tests))

    pub just_between : (i : ℕ) → i < length rs → beneath w len bits (get_or rs i no_route) ≡ (leb from i && ltb i to)
    just_between i l =
        ⊎_elim (λ (h : i < from). let b = below_not (get_or rs i no_route) (before_start i h) in grind (arith, nat_tests))
        (λ (h : from ≤ i).
        ⊎_elim (λ (m : i < to). let t = inside i h m in grind (arith, nat_tests)) (λ (m : to ≤ i). let f = beyond i m l in grind (arith, nat_tests)) (cases_lt i to))
        (cases_lt i from)

-- the routes between the two places are what the contract says
pub span_between : (words stride : ℕ) (row : List ℕ) (len bits start from to l : ℕ) → len ≤ width words → start ≡ first (width words) len bits * 2 ^ (width words - len) → l ≡ len
    → Boundary (routes words stride row) start l from → End (width words) (routes words stride row) len bits from to → SpanSays words stride row len bits from to
span_between words stride row len bits start from to l short starts e place end = record {
  after = end.after;
  within = end.within;
  too_long = λ h. absurd (omega arith);
  just = λ h proper order i k. just_between (width words) len bits start short starts (routes words stride row) from to proper order (subst (λ (n : ℕ). Boundary (routes words stride row) start n from) e place) end i k;
}

-- no route lies beneath a length that no key has
pub span_none : (words stride : ℕ) (row : List ℕ) (len bits : ℕ) → width words < len → SpanSays words stride row len bits 0 0
span_none words stride row len bits long = record {
  after = omega arith;
  within = omega arith;
  too_long = λ h. refl;
  just = λ h. absurd (omega arith);
}

-- what no routes take of a row
pub none_taken : (stride : ℕ) (row : List ℕ) (from to : ℕ) → from ≡ to → [] ≡ take (stride * (to - from)) (drop (slot stride from) row)
none_taken stride row from to same =
    let z : to - from ≡ 0 = omega arith in
    sym (ap (λ (n : ℕ). take (stride * n) (drop (slot stride from) row)) z ∙ ap (λ (n : ℕ). take n (drop (slot stride from) row)) (mul-zero stride))

-- the routes of a span, and what they take of the row
pub taken_by : (words stride : ℕ) (row : List ℕ) (len bits from to : ℕ) (part : List ℕ) → SpanSays words stride row len bits from to → part ≡ take (stride * (to - from)) (drop (slot stride from) row) → PartTaken words stride row len bits part
taken_by words stride row len bits from to part span lent = record { from = from; to = to; span = span; lent = lent }

-- what the routes of a span take of the row is the part that the contract speaks of
pub part_says : (words stride : ℕ) (row : List ℕ) (len bits : ℕ) (part : List ℕ) → PartTaken words stride row len bits part → PartSays words stride row len bits part
part_says words stride row len bits part taken = record {
  too_long = λ h. ap (λ (xs : List ℕ). length xs) (taken.lent ∙ sym (none_taken stride row taken.from taken.to (taken.span.too_long h)));
  lends = λ h proper order.
      let after = taken.span.after in
      let same : taken.from + (taken.to - taken.from) ≡ taken.to = omega arith in
      record {
        from = taken.from;
        count = taken.to - taken.from;
        within = omega (arith, taken.span.within);
        lent = taken.lent;
        just = λ i k. taken.span.just h proper order i k ∙ ap (λ (n : ℕ). leb taken.from i && ltb i n) (sym same);
      };
}
