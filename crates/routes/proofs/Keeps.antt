-- A change at the place that the search found keeps a list in order, and is put or taken away as a set. Assumes nothing.
use Rattle.std.proofs.Common.{◌≡◌, ℕ, zero, suc, ◌+◌, ◌-◌, ◌<◌, ◌≤◌, true, false, ◌⊎◌, List, [], ◌∷◌, ◌++◌, length, get_or, take, drop, set, sym, refl, ap, ◌∙◌, inl, inr, ⊎_elim, arith}
use Rattle.std.specs.List.{insert, remove}
use Rattle.std.proofs.lemmas.List.Edits.{length-insert, get_or-insert_below, get_or-insert_at, get_or-insert_above, length-remove, get_or-remove_below, get_or-remove_above}
use Rattle.std.proofs.lemmas.List.{get_or-set_same, get_or-set_other, length-set, take-append-drop}
use Rattle.std.proofs.lemmas.Bool.{cases_eq, cases_lt, cases_order}
use Rattle.std.proofs.lemmas.Bool.Decides.{nat_tests}
use Rattle.prefix.specs.Routes.{Route, route_of, before, no_route, same_prefix, put, away, In, InOrder, SameMembers}
use Rattle.routes.specs.Searches.{Found, Missing}
use Rattle.routes.specs.Changes.{PutInOrder, AwayInOrder}
use Rattle.routes.proofs.Order.{below_before, above_before, misses}

-- put and away by places: the first route with the prefix, or none
put_set : (rs : List Route) (r : Route) (k : ℕ) → k < length rs → ((j : ℕ) → j < k → same_prefix (get_or rs j no_route) r ≡ false) → same_prefix (get_or rs k no_route) r ≡ true → put r rs ≡ set rs k r
unfolding put same_prefix
put_set [] r k h none here = absurd (omega arith)
put_set (s ∷ ss) r zero h none here = let t : same_prefix r s ≡ true = grind (arith, nat_tests) in rw t
put_set (s ∷ ss) r (suc k) h none here =
    let n = none 0 (omega arith) in
    let t : same_prefix r s ≡ false = grind (arith, nat_tests) in
    rw (t, put_set ss r k (omega arith) (λ j l. none (suc j) (omega arith)) here)

pub put_absent : (rs : List Route) (r : Route) → ((j : ℕ) → j < length rs → same_prefix (get_or rs j no_route) r ≡ false) → put r rs ≡ rs ++ r ∷ []
unfolding put same_prefix
put_absent [] r none = refl
put_absent (s ∷ ss) r none =
    let n = none 0 (omega arith) in
    let t : same_prefix r s ≡ false = grind (arith, nat_tests) in
    rw (t, put_absent ss r (λ j l. none (suc j) (omega arith)))

away_removed : (rs : List Route) (bits len k : ℕ) → k < length rs → ((j : ℕ) → j < k → same_prefix (get_or rs j no_route) (route_of bits len 0) ≡ false)
    → same_prefix (get_or rs k no_route) (route_of bits len 0) ≡ true → away len bits rs ≡ remove rs k
unfolding away same_prefix
away_removed [] bits len k h none here = absurd (omega arith)
away_removed (s ∷ ss) bits len zero h none here = rw here
away_removed (s ∷ ss) bits len (suc k) h none here =
    rw (none 0 (omega arith), away_removed ss bits len k (omega arith) (λ j l. none (suc j) (omega arith)) here)

away_absent : (rs : List Route) (bits len : ℕ) → ((j : ℕ) → j < length rs → same_prefix (get_or rs j no_route) (route_of bits len 0) ≡ false) → away len bits rs ≡ rs
unfolding away same_prefix
away_absent [] bits len none = refl
away_absent (s ∷ ss) bits len none = rw (none 0 (omega arith), away_absent ss bits len (λ j l. none (suc j) (omega arith)))

-- members of lists joined
in_left : (d : Route) (xs ys : List Route) → In d xs → In d (xs ++ ys)
in_left d [] ys i = absurd i
in_left d (x ∷ xs) ys (inl e) = inl e
in_left d (x ∷ xs) ys (inr i) = inr (in_left d xs ys i)

in_right : (d : Route) (xs ys : List Route) → In d ys → In d (xs ++ ys)
in_right d [] ys i = i
in_right d (x ∷ xs) ys i = inr (in_right d xs ys i)

in_either : (d : Route) (xs ys : List Route) → In d (xs ++ ys) → In d xs ⊎ In d ys
in_either d [] ys i = inr i
in_either d (x ∷ xs) ys (inl e) = inl (inl e)
in_either d (x ∷ xs) ys (inr i) = ⊎_elim (λ (l : In d xs). inl (inr l)) (λ (r : In d ys). inr r) (in_either d xs ys i)

-- where among others a route stands does not matter
moved_in : (xs ys : List Route) (r : Route) → SameMembers (xs ++ r ∷ ys) ((xs ++ ys) ++ r ∷ [])
moved_in xs ys r =
    record {
      onward = λ d i. ⊎_elim (λ (l : In d xs). in_left d (xs ++ ys) (r ∷ []) (in_left d xs ys l))
          (λ (m : In d (r ∷ ys)). ⊎_elim (λ (e : d ≡ r). in_right d (xs ++ ys) (r ∷ []) (inl e)) (λ (l : In d ys). in_left d (xs ++ ys) (r ∷ []) (in_right d xs ys l)) m)
          (in_either d xs (r ∷ ys) i);
      back = λ d i. ⊎_elim (λ (m : In d (xs ++ ys)). ⊎_elim (λ (l : In d xs). in_left d xs (r ∷ ys) l) (λ (l : In d ys). in_right d xs (r ∷ ys) (inr l)) (in_either d xs ys m))
          (λ (m : In d (r ∷ [])). ⊎_elim (λ (e : d ≡ r). in_right d xs (r ∷ ys) (inl e)) (λ (l : ⊥). absurd l) m)
          (in_either d (xs ++ ys) (r ∷ []) i);
    }

same_as : (xs ys : List Route) → ys ≡ xs → SameMembers xs ys
same_as xs ys e = rw e record { onward = λ d i. i; back = λ d i. i }

-- the routes before one in order have not its prefix
apart_below : (rs : List Route) (bits len k : ℕ) → InOrder rs → Found rs bits len k → (j : ℕ) → j < k → same_prefix (get_or rs j no_route) (route_of bits len 0) ≡ false
unfolding same_prefix
apart_below rs bits len k order f j l = let o = order j k l f.within in let b = f.is_bits in let n = f.is_len in grind (arith, nat_tests)

found_same : (rs : List Route) (bits len k : ℕ) → Found rs bits len k → same_prefix (get_or rs k no_route) (route_of bits len 0) ≡ true
unfolding same_prefix
found_same rs bits len k f = let b = f.is_bits in let n = f.is_len in grind (arith, nat_tests)

-- another hop leaves every prefix
set_prefix : (rs : List Route) (r : Route) (k : ℕ) → Found rs r.bits r.len k → (i : ℕ) → ((get_or (set rs k r) i no_route).bits ≡ (get_or rs i no_route).bits) × ((get_or (set rs k r) i no_route).len ≡ (get_or rs i no_route).len)
set_prefix rs r k f i =
    ⊎_elim
    (λ (e : i ≡ k). let here = get_or-set_same rs k r no_route f.within in rw (e, here) (sym f.is_bits, sym f.is_len))
    (λ (ne : i ≡ k → ⊥). let there = get_or-set_other rs k i r no_route ne in rw there (refl, refl))
    (cases_eq i k)

pub put_replaced : (rs new : List Route) (r : Route) (k was : ℕ) → Found rs r.bits r.len k → new ≡ set rs k r → (get_or rs k no_route).hop ≡ was → InOrder rs → PutInOrder rs new r (suc was)
unfolding same_prefix
put_replaced rs new r k was f is hop order =
    rw is
    record {
      order = λ i j h l. let a = set_prefix rs r k f i in let b = set_prefix rs r k f j in rw (a.0, a.1, b.0, b.1) (order i j h (rw length-set at l));
      members = same_as (set rs k r) (put r rs) (put_set rs r k f.within (apart_below rs r.bits r.len k order f) (found_same rs r.bits r.len k f));
      held_before = f.held_there order ∙ ap suc hop;
    }

module _ (rs : List Route) (r : Route) (k : ℕ) (m : Missing rs r.bits r.len k) (order : InOrder rs) where
  fits : k ≤ length rs
  fits = m.place.within

  below : (i : ℕ) → i < k → before (get_or rs i no_route) r ≡ true
  below = below_before rs r.bits r.len k order m.place

  above : (j : ℕ) → k ≤ j → j < length rs → before r (get_or rs j no_route) ≡ true
  above = above_before rs r.bits r.len k order m.place m.other

  old_low : (i : ℕ) → i < k → get_or (insert rs k r) i no_route ≡ get_or rs i no_route
  old_low i h = get_or-insert_below rs k r no_route i h fits

  new_at : get_or (insert rs k r) k no_route ≡ r
  new_at = get_or-insert_at rs k r no_route fits

  old_high : (j : ℕ) → k < j → get_or (insert rs k r) j no_route ≡ get_or rs (j - 1) no_route
  old_high j h =
      let up : j ≡ (j - 1) + 1 = omega arith in
      ap (λ (n : ℕ). get_or (insert rs k r) n no_route) up ∙ get_or-insert_above rs k r no_route (j - 1) (omega arith) fits

  inserted_order : InOrder (insert rs k r)
  inserted_order i j h l =
      let size : length (insert rs k r) ≡ length rs + 1 = length-insert rs k r fits in
      ⊎_elim
      (λ (e : i ≡ k). rw (e, new_at, old_high j (omega arith)) (above (j - 1) (omega arith) (omega arith)))
      (⊎_elim
      (λ (lo : i < k).
      ⊎_elim
      (λ (e : j ≡ k). rw (e, old_low i lo, new_at) (below i lo))
      (⊎_elim
      (λ (jlo : j < k). rw (old_low i lo, old_low j jlo) (order i j h (omega (arith, fits))))
      (λ (jhi : k < j). rw (old_low i lo, old_high j jhi) (order i (j - 1) (omega arith) (omega arith))))
      (cases_order j k))
      (λ (hi : k < i). rw (old_high i hi, old_high j (omega arith)) (order (i - 1) (j - 1) (omega arith) (omega arith))))
      (cases_order i k)

  pub put_added : (new : List Route) → new ≡ insert rs k r → PutInOrder rs new r 0
  unfolding same_prefix
  put_added new is =
      rw is
      record {
        order = inserted_order;
        members =
            rw (put_absent rs r (misses rs r.bits r.len k order m.place m.other))
            (rw (take-append-drop k rs) at (moved_in (take k rs) (drop k rs) r));
        held_before = m.none order;
      }

pub away_found : (rs new : List Route) (bits len k was : ℕ) → Found rs bits len k → new ≡ remove rs k → (get_or rs k no_route).hop ≡ was → InOrder rs → AwayInOrder rs new bits len (suc was)
away_found rs new bits len k was f is hop order =
    rw is
    record {
      order = removed_order;
      members = same_as (remove rs k) (away len bits rs) (away_removed rs bits len k f.within (apart_below rs bits len k order f) (found_same rs bits len k f));
      held_before = f.held_there order ∙ ap suc hop;
    }
  where
    from : (i : ℕ) → (m : ℕ) × (get_or (remove rs k) i no_route ≡ get_or rs m no_route) × (i ≤ m) × (m ≤ i + 1) × (i < k → m ≡ i) × (k ≤ i → m ≡ i + 1)
    from i =
        ⊎_elim
        (λ (lo : i < k). (i, get_or-remove_below rs k no_route i lo f.within, omega arith, omega arith, λ h. refl, λ h. omega arith))
        (λ (hi : k ≤ i). (i + 1, get_or-remove_above rs k no_route i hi f.within, omega arith, omega arith, λ h. omega arith, λ h. refl))
        (cases_lt i k)

    removed_order : InOrder (remove rs k)
    removed_order i j h l =
        let size : length (remove rs k) + 1 ≡ length rs = length-remove rs k f.within in
        let (a, at_a, a-low, a-high, a-is, a-up) = from i in
        let (b, at_b, b-low, b-high, b-is, b-up) = from j in
        let less : a < b = grind (arith, cases_lt i k, cases_lt j k) in
        rw (at_a, at_b) (order a b less (grind (arith, cases_lt j k)))

pub away_missing : (rs : List Route) (bits len k : ℕ) → Missing rs bits len k → InOrder rs → AwayInOrder rs rs bits len 0
away_missing rs bits len k m order =
    record {
      order = order;
      members = same_as rs (away len bits rs) (away_absent rs bits len (misses rs bits len k order m.place m.other));
      held_before = m.none order;
    }
