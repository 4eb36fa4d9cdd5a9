-- What a gap that was opened or closed in a row is to its list of routes. Assumes nothing.
use Rattle.std.proofs.Common.{◌≡◌, ℕ, zero, suc, ◌+◌, ◌-◌, ◌*◌, ◌<◌, ◌≤◌, true, ◌≢◌, List, length, get_or, take, drop, set, sym, refl, ap, ◌∙◌, ⊎_elim, arith}
use borrow.Rule.Slice.PartMut.{put_mid}
use Rattle.std.specs.List.{insert, remove}
use Rattle.std.proofs.lemmas.List.FromFn.{fill_by_all}
use Rattle.std.proofs.lemmas.List.Edits.{length-insert, get_or-insert_below, get_or-insert_at, get_or-insert_above, length-remove, get_or-remove_below, get_or-remove_above}
use Rattle.std.proofs.lemmas.List.{places, length-drop, length-take-le, get_or-set_same, get_or-set_other, length-set}
use Rattle.std.proofs.lemmas.Bool.{cases_eq, cases_lt, cases_order}
use Rattle.std.proofs.lemmas.Bool.Decides.{nat_tests}
use Rattle.prefix.specs.Words.{loaded}
use Rattle.prefix.specs.Routes.{Route, route_of, no_route}
use Rattle.routes.specs.Rows.{slot, route_at, listing, count_in, room_in, routes}
use Rattle.routes.specs.Gaps.{Opened, Closed, Written}
use Rattle.routes.specs.Changes.{Added, Replaced, Removed}
use Rattle.routes.proofs.Slots.{Listing, with_room, count_room, next_slot, slots_rise, slots_apart, mul_add_one, count_is}
use Rattle.routes.proofs.Lists.{length_routes, getD_routes}

-- words that stand alike write the same number
pub loaded_same : (words a b : ℕ) (xs ys : List ℕ) → ((i : ℕ) → i < words → get_or ys (a + i) 0 ≡ get_or xs (b + i) 0) → loaded words ys a ≡ loaded words xs b
loaded_same zero a b xs ys same = refl
loaded_same (suc words) a b xs ys same =
    let a0 : a + 0 ≡ a = omega arith in
    let b0 : b + 0 ≡ b = omega arith in
    let first : get_or ys a 0 ≡ get_or xs b 0 = rw (a0, b0) at (same 0 (omega arith)) in
    let rest = loaded_same words (a + 1) (b + 1) xs ys
    (λ i h.
    let ai : a + 1 + i ≡ a + suc i = omega arith in
    let bi : b + 1 + i ≡ b + suc i = omega arith in
    rw (ai, bi) (same (suc i) (omega arith))) in
    rw (first, rest)

-- numbers that stand alike are the same route
pub route_same : (words stride j m : ℕ) (xs ys : List ℕ) → ((i : ℕ) → i < words + 2 → get_or ys (slot stride j + i) 0 ≡ get_or xs (slot stride m + i) 0) → route_at words stride ys j ≡ route_at words stride xs m
route_same words stride j m xs ys same =
    let bits = loaded_same words (slot stride j) (slot stride m) xs ys (λ i h. same i (omega arith)) in
    let len = same words (omega arith) in
    let hop = same (words + 1) (omega arith) in
    rw (bits, len, hop)

-- behind the two counts a new count changes nothing
recounted : (xs : List ℕ) (n i : ℕ) → 2 ≤ i → get_or (set xs 0 n) i 0 ≡ get_or xs i 0
recounted xs n i h = let ne : i ≢ 0 = omega arith in get_or-set_other xs 0 i n 0 ne

-- a row of the same length and room whose count is n
record Counted (words stride : ℕ) (old new : List ℕ) (n : ℕ) : Type 0 where
  count : count_in words stride new ≡ n
  room : room_in words stride new ≡ room_in words stride old

counted : (words stride : ℕ) (old new : List ℕ) (n : ℕ) → Listing words stride old → length new ≡ length old → get_or new 0 0 ≡ n → get_or new 1 0 ≡ get_or old 1 0 → n ≤ get_or old 1 0 → Counted words stride old new n
counted words stride old new n l long zeroth one fits =
    let wide = l.wide in
    let room = l.long in
    let at : stride * get_or new 1 0 ≡ stride * get_or old 1 0 = ap (λ (m : ℕ). stride * m) one in
    let is : listing words stride new ≡ true = grind (arith, nat_tests) in
    let was = l.is in
    record { count = grind (arith, nat_tests); room = grind (arith, nat_tests) }

-- a list is the row's, if it is so route by route
by_places : (words stride : ℕ) (new : List ℕ) (xs : List Route) → length xs ≡ count_in words stride new → ((j : ℕ) → j < count_in words stride new → get_or xs j no_route ≡ route_at words stride new j)
    → routes words stride new ≡ xs
unfolding routes
by_places words stride new xs long all = sym (fill_by_all (route_at words stride new) xs (count_in words stride new) no_route long all)

as_route : (bits len hop : ℕ) (r : Route) → bits ≡ r.bits → len ≡ r.len → hop ≡ r.hop → route_of bits len hop ≡ r
as_route bits len hop r p q h = rw (p, q, h)

-- a gap opened or closed in a part that was lent is one in the row
pub lent_opened : (gap at end : ℕ) (old part new : List ℕ) → at ≤ end → end + gap ≤ length old → part ≡ take (end + gap - at) (drop at old) → length new ≡ length part
    → Opened gap 0 (length part - gap) part new → Opened gap at end old (put_mid at (end + gap - at) old new)
lent_opened gap at end old part new le fits is long o =
    let size : length part ≡ end + gap - at = ap length is ∙ length-take-le (end + gap - at) (drop at old) (rw length-drop (omega arith)) in
    record {
      before = λ i h. grind (arith, places);
      moved = λ i h m. let e = o.moved (i - at) in let p = ap (λ (xs : List ℕ). get_or xs (i - at) 0) is in grind (arith, places);
      behind = λ i h. grind (arith, places);
    }

pub lent_closed : (gap at end : ℕ) (old part new : List ℕ) → at + gap ≤ end → end ≤ length old → part ≡ take (end - at) (drop at old) → length new ≡ length part
    → Closed gap 0 (length part) part new → Closed gap at end old (put_mid at (end - at) old new)
lent_closed gap at end old part new le fits is long o =
    let size : length part ≡ end - at = ap length is ∙ length-take-le (end - at) (drop at old) (rw length-drop (omega arith)) in
    record {
      before = λ i h. grind (arith, places);
      moved = λ i h m. let e = o.moved (i - at) in let p = ap (λ (xs : List ℕ). get_or xs (i - at + gap) 0) is in grind (arith, places);
      behind = λ i h. let e = o.behind (i - at) in let p = ap (λ (xs : List ℕ). get_or xs (i - at) 0) is in grind (arith, places);
    }

-- a new count leaves what was opened or closed behind the counts
counts_alike : (old new : List ℕ) (n i : ℕ) → 0 < length old → 0 < length new → get_or new i 0 ≡ get_or old i 0 → get_or (set new 0 n) i 0 ≡ get_or (set old 0 n) i 0
counts_alike old new n i lo ln e =
    ⊎_elim (λ (z : i ≡ 0). rw z (get_or-set_same new 0 n 0 ln ∙ sym (get_or-set_same old 0 n 0 lo)))
    (λ (z : i ≡ 0 → ⊥). get_or-set_other new 0 i n 0 z ∙ e ∙ sym (get_or-set_other old 0 i n 0 z)) (cases_eq i 0)

pub opened_counted : (words gap at end n : ℕ) (old mid new : List ℕ) (bits len hop : ℕ) → 2 ≤ at → at ≤ end → words + 2 ≤ gap → 0 < length old → 0 < length new → Opened gap at end old mid → Written words at mid new bits len hop
    → Opened gap at end (set old 0 n) (set new 0 n)
opened_counted words gap at end n old mid new bits len hop two le wide lo ln o w =
    record {
      before = λ i h. counts_alike old new n i lo ln (w.before i h ∙ o.before i h);
      moved = λ i h m. recounted new n (i + gap) (omega arith) ∙ w.behind (i + gap) (omega arith) ∙ o.moved i h m ∙ sym (recounted old n i (omega arith));
      behind = λ i h. recounted new n i (omega arith) ∙ w.behind i (omega (arith, le)) ∙ o.behind i h ∙ sym (recounted old n i (omega arith));
    }

pub closed_counted : (gap at end n : ℕ) (old new : List ℕ) → 2 ≤ at → 0 < length old → 0 < length new → Closed gap at end old new → Closed gap at end (set old 0 n) (set new 0 n)
closed_counted gap at end n old new two lo ln o =
    record {
      before = λ i h. counts_alike old new n i lo ln (o.before i h);
      moved = λ i h m. recounted new n i (omega arith) ∙ o.moved i h m ∙ sym (recounted old n (i + gap) (omega arith));
      behind = λ i h. counts_alike old new n i lo ln (o.behind i h);
    }

-- what was written stands there whatever the count
pub written_route : (words stride k n : ℕ) (mid new : List ℕ) (bits len hop : ℕ) → Written words (slot stride k) mid new bits len hop → route_at words stride (set new 0 n) k ≡ route_of bits len hop
written_route words stride k n mid new bits len hop w =
    as_route _ _ _ (route_of bits len hop)
    (loaded_same words (slot stride k) (slot stride k) new (set new 0 n) (λ i h. recounted new n (slot stride k + i) (omega arith)) ∙ w.is_bits)
    (recounted new n (slot stride k + words) (omega arith) ∙ w.is_len) (recounted new n (slot stride k + (words + 1)) (omega arith) ∙ w.is_hop)

module _ (words stride : ℕ) (old new : List ℕ) (k : ℕ) (long : length new ≡ length old) where
  pub added : (r : Route) → k ≤ count_in words stride old → count_in words stride old < room_in words stride old
      → Opened stride (slot stride k) (slot stride (count_in words stride old)) (set old 0 (suc (count_in words stride old))) new → route_at words stride new k ≡ r → Added words stride old new r k
  added r le more gap here =
      let n : ℕ = count_in words stride old in
      let l = with_room words stride old n more in
      let pos : 0 < length old = omega (arith, l.long) in
      let zeroth : get_or new 0 0 ≡ suc n = gap.before 0 (omega arith) ∙ get_or-set_same old 0 (suc n) 0 pos in
      let one : get_or new 1 0 ≡ get_or old 1 0 = gap.before 1 (omega arith) ∙ get_or-set_other old 0 1 (suc n) 0 (omega arith) in
      let room_is : room_in words stride old ≡ get_or old 1 0 = grind (arith, nat_tests, l.is) in
      let c = counted words stride old new (suc n) l long zeroth one (omega arith) in
      let rs : List Route = routes words stride old in
      let size : length rs ≡ n = length_routes words stride old in
      let fits : k ≤ length rs = omega arith in
      let wide = l.wide in
      record {
        list =
            by_places words stride new (insert rs k r) (omega (arith, length-insert rs k r fits, c.count))
            (λ j h.
            ⊎_elim
            (λ (e : j ≡ k). rw e (get_or-insert_at rs k r no_route fits ∙ sym here))
            (⊎_elim
            (λ (below : j < k).
            get_or-insert_below rs k r no_route j below fits ∙ getD_routes words stride old j (omega arith)
            ∙ sym (route_same words stride j j old new (λ i few. gap.before (slot stride j + i) (omega (arith, next_slot stride j k below)) ∙ recounted old (suc n) _ (omega arith))))
            (λ (above : k < j).
            let m : ℕ = j - 1 in
            let up : j ≡ m + 1 = omega arith in
            let last : m < n = omega (arith, c.count) in
            rw up
            (get_or-insert_above rs k r no_route m (omega arith) fits ∙ getD_routes words stride old m last
            ∙ sym (route_same words stride (m + 1) m old new
            (λ i few.
            let at : slot stride (m + 1) + i ≡ slot stride m + i + stride = omega (arith, mul_add_one stride m) in
            rw at
            (gap.moved (slot stride m + i) (omega (arith, slots_rise stride k m (omega arith))) (omega (arith, next_slot stride m n last)) ∙ recounted old (suc n) _ (omega arith)))))))
            (cases_order j k));
        room = c.room;
        moved = gap;
      }

  pub taken : k < count_in words stride old
      → Closed stride (slot stride k) (slot stride (count_in words stride old)) (set old 0 (count_in words stride old - 1)) new → Removed words stride old new k
  taken less gap =
      let n : ℕ = count_in words stride old in
      let l = with_room words stride old k (omega (arith, count_room words stride old)) in
      let pos : 0 < length old = omega (arith, l.long) in
      let zeroth : get_or new 0 0 ≡ n - 1 = gap.before 0 (omega arith) ∙ get_or-set_same old 0 (n - 1) 0 pos in
      let one : get_or new 1 0 ≡ get_or old 1 0 = gap.before 1 (omega arith) ∙ get_or-set_other old 0 1 (n - 1) 0 (omega arith) in
      let room_is : room_in words stride old ≡ get_or old 1 0 = grind (arith, nat_tests, l.is) in
      let c = counted words stride old new (n - 1) l long zeroth one (omega (arith, count_room words stride old)) in
      let rs : List Route = routes words stride old in
      let size : length rs ≡ n = length_routes words stride old in
      let fits : k < length rs = omega arith in
      let wide = l.wide in
      record {
        list =
            by_places words stride new (remove rs k) (omega (arith, length-remove rs k fits, c.count))
            (λ j h.
            ⊎_elim
            (λ (below : j < k).
            get_or-remove_below rs k no_route j below fits ∙ getD_routes words stride old j (omega arith)
            ∙ sym (route_same words stride j j old new (λ i few. gap.before (slot stride j + i) (omega (arith, next_slot stride j k below)) ∙ recounted old (n - 1) _ (omega arith))))
            (λ (above : k ≤ j).
            let last : j + 1 < n = omega (arith, c.count) in
            get_or-remove_above rs k no_route j above fits ∙ getD_routes words stride old (j + 1) last
            ∙ sym (route_same words stride j (j + 1) old new
            (λ i few.
            let at : slot stride (j + 1) + i ≡ slot stride j + i + stride = omega (arith, mul_add_one stride j) in
            rw at
            (gap.moved (slot stride j + i) (omega (arith, slots_rise stride k j above)) (omega (arith, mul_add_one stride j, next_slot stride (j + 1) n last)) ∙ recounted old (n - 1) _ (omega arith)))))
            (cases_lt j k));
        room = c.room;
        moved = gap;
      }

-- the two changes as the code makes them: a gap opened, a route written into it, and the count; a gap closed, and the count
pub added_by : (words stride : ℕ) (old mid new : List ℕ) (k at end bits len hop : ℕ) → k ≤ count_in words stride old → count_in words stride old < room_in words stride old → at ≡ slot stride k → end ≡ slot stride (get_or old 0 0)
    → length new ≡ length old → Opened stride at end old mid → Written words at mid new bits len hop → Added words stride old (set new 0 (get_or old 0 0 + 1)) (route_of bits len hop) k
added_by words stride old mid new k at end bits len hop le more p q long o w =
    let n : ℕ = count_in words stride old in
    let l = with_room words stride old n more in
    let is-n : n ≡ get_or old 0 0 = count_is words stride old l in
    let up : get_or old 0 0 + 1 ≡ suc n = omega arith in
    let q' : end ≡ slot stride n = q ∙ ap (slot stride) (sym is-n) in
    let o' : Opened stride (slot stride k) (slot stride n) old mid = rw (p, q') at o in
    let w' : Written words (slot stride k) mid new bits len hop = rw p at w in
    let pos : 0 < length old = omega (arith, l.long) in
    let rise = slots_rise stride k n le in
    rw up
    (added words stride old (set new 0 (suc n)) k (length-set new 0 (suc n) ∙ long) (route_of bits len hop) le more
    (opened_counted words stride (slot stride k) (slot stride n) (suc n) old mid new bits len hop (omega arith) (omega arith) l.wide pos (omega arith) o' w')
    (written_route words stride k (suc n) mid new bits len hop w'))

pub taken_by : (words stride : ℕ) (old new : List ℕ) (k at end : ℕ) → k < count_in words stride old → at ≡ slot stride k → end ≡ slot stride (get_or old 0 0) → length new ≡ length old → Closed stride at end old new
    → Removed words stride old (set new 0 (get_or old 0 0 - 1)) k
taken_by words stride old new k at end less p q long o =
    let n : ℕ = count_in words stride old in
    let l = with_room words stride old k (omega (arith, count_room words stride old)) in
    let is-n : n ≡ get_or old 0 0 = count_is words stride old l in
    let q' : end ≡ slot stride n = q ∙ ap (slot stride) (sym is-n) in
    let o' : Closed stride (slot stride k) (slot stride n) old new = rw (p, q') at o in
    let pos : 0 < length old = omega (arith, l.long) in
    rw (← is-n)
    (taken words stride old (set new 0 (n - 1)) k (length-set new 0 (n - 1) ∙ long) less
    (closed_counted stride (slot stride k) (slot stride n) (n - 1) old new (omega arith) pos (omega arith) o'))

-- a row in which one hop was replaced
pub replaced : (words stride : ℕ) (old new : List ℕ) (k : ℕ) (r : Route) → k < count_in words stride old → (get_or (routes words stride old) k no_route).bits ≡ r.bits → (get_or (routes words stride old) k no_route).len ≡ r.len
    → new ≡ set old (slot stride k + (words + 1)) r.hop → Replaced words stride old new r k
replaced words stride old new k r less bits len is =
    let n : ℕ = count_in words stride old in
    let l = with_room words stride old k (omega (arith, count_room words stride old)) in
    let place : ℕ = slot stride k + (words + 1) in
    let long : length new ≡ length old = ap length is ∙ length-set old place r.hop in
    let other : (i : ℕ) → i ≢ place → get_or new i 0 ≡ get_or old i 0 = λ i ne. ap (λ (xs : List ℕ). get_or xs i 0) is ∙ get_or-set_other old place i r.hop 0 ne in
    let room_is : room_in words stride old ≡ get_or old 1 0 = grind (arith, nat_tests, l.is) in
    let count_is : n ≡ get_or old 0 0 = grind (arith, nat_tests, l.is) in
    let c = counted words stride old new n l long (other 0 (omega arith) ∙ sym count_is) (other 1 (omega arith)) (omega (arith, count_room words stride old)) in
    let rs : List Route = routes words stride old in
    let size : length rs ≡ n = length_routes words stride old in
    let wide = l.wide in
    let inside : place < length old = omega (arith, l.long, next_slot stride k (get_or old 1 0) (omega (arith, count_room words stride old))) in
    let read = getD_routes words stride old k less in
    let same_bits : loaded words new (slot stride k) ≡ (get_or rs k no_route).bits =
    loaded_same words (slot stride k) (slot stride k) old new (λ i h. other (slot stride k + i) (omega arith)) ∙ ap (λ (x : Route). x.bits) (sym read) in
    let same_len : get_or new (slot stride k + words) 0 ≡ (get_or rs k no_route).len = other (slot stride k + words) (omega arith) ∙ ap (λ (x : Route). x.len) (sym read) in
    let is_hop : get_or new place 0 ≡ r.hop = ap (λ (xs : List ℕ). get_or xs place 0) is ∙ get_or-set_same old place r.hop 0 inside in
    record {
      list =
          by_places words stride new (set rs k r) (length-set rs k r ∙ size ∙ sym c.count)
          (λ j h.
          ⊎_elim
          (λ (e : j ≡ k). rw e (get_or-set_same rs k r no_route (omega arith) ∙ sym (as_route _ _ _ r (same_bits ∙ bits) (same_len ∙ len) is_hop)))
          (λ (ne : j ≡ k → ⊥). get_or-set_other rs k j r no_route ne ∙ getD_routes words stride old j (omega (arith, c.count))
          ∙ sym (route_same words stride j j old new (λ i few. other (slot stride j + i) (λ same. slots_apart stride j k i (words + 1) ne (omega arith) (omega arith) (omega arith)))))
          (cases_eq j k));
      room = c.room;
      row = is;
    }

-- rows that are alike as far as there is room for routes have the same list
pub same_front : (words stride : ℕ) (old new : List ℕ) → length new ≡ length old → ((i : ℕ) → i < slot stride (get_or old 1 0) → get_or new i 0 ≡ get_or old i 0) → routes words stride new ≡ routes words stride old
same_front words stride old new long same =
    let zeroth : get_or new 0 0 ≡ get_or old 0 0 = same 0 (omega arith) in
    let one : get_or new 1 0 ≡ get_or old 1 0 = same 1 (omega arith) in
    let count : count_in words stride new ≡ count_in words stride old = rw (one, zeroth, long) in
    by_places words stride new (routes words stride old) (length_routes words stride old ∙ sym count)
    (λ j h.
    let less : j < count_in words stride old = omega arith in
    let l = with_room words stride old j (omega (arith, count_room words stride old)) in
    let wide = l.wide in
    let below : j < get_or old 1 0 = omega (arith, l.fits, count_is words stride old l) in
    getD_routes words stride old j less ∙ sym (route_same words stride j j old new (λ i few. same (slot stride j + i) (omega (arith, next_slot stride j (get_or old 1 0) below)))))
