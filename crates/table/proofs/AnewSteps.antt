-- The default and the trie made anew, route by route: a table that is right for the first routes of a list, and for one more. Assumes nothing.
use Rattle.std.proofs.Common.{◌≡◌, ℕ, zero, suc, ◌+◌, ◌-◌, ◌<◌, ◌≤◌, Bool, true, List, [], ◌∷◌, length, get_or, take, drop, set, sym, refl, ap, ◌∙◌, inl, inr, ⊎_elim, arith}
use borrow.Rule.Slice.PartMut.{put_mid, same_len_mid}
use Rattle.std.proofs.lemmas.List.{places, ext_get_or, length-set, length-take-le, get_or-take, get_or-set_same, get_or-set_other, set-get_or, take_more}
use Rattle.std.proofs.lemmas.Bool.{cases_eq}
use Rattle.std.proofs.lemmas.Bool.Decides.{nat_tests}
use Rattle.prefix.specs.Words.{width}
use Rattle.prefix.specs.Routes.{Route, route_of, no_route, good_prefix, good_route, put, In, InOrder, SameMembers}
use Rattle.prefix.specs.Map.{hops}
use Rattle.prefix.proofs.Good.{in_good}
use Rattle.routes.specs.Rows.{slot, count_in}
use Rattle.routes.proofs.Slots.{next_slot}
use Rattle.routes.proofs.Lists.{length_routes, getD_routes}
use Rattle.routes.proofs.Moves.{route_same}
use Rattle.routes.proofs.Order.{before_apart}
use Rattle.routes.proofs.Keeps.{put_absent}
use Rattle.table.specs.Right.{Right, Sound, stride, room, default_at, listed}
use Rattle.table.specs.Follows.{Front, Entered, Last}
use Rattle.table.specs.Anew.{Alike, Begun}
use Rattle.table.proofs.Fresh.{blank_of, blank_right}
use Rattle.table.proofs.Changing.{Behind, mapped_still, put_map}

-- a row's room is no matter of the count
pub alike_room : (words : ℕ) (old new : List ℕ) → Alike words old new → room new ≡ room old
alike_room words old new a = a.same 1 (omega arith) (omega arith)

pub alike_trans : (words : ℕ) (old mid new : List ℕ) → Alike words old mid → Alike words mid new → Alike words old new
alike_trans words old mid new a b =
    let r = alike_room words old mid a in
    record { long = b.long ∙ a.long; same = λ i p h. b.same i p (rw r h) ∙ a.same i p h }

pub alike_front : (words : ℕ) (old new : List ℕ) → Front words old new → Alike words old new
alike_front words old new f = record { long = f.long; same = λ i p h. f.same i h }

pub alike_self : (words : ℕ) (row : List ℕ) → Alike words row row
alike_self words row = record { long = refl; same = λ i p h. refl }

-- another count
pub alike_counted : (words : ℕ) (row : List ℕ) (n : ℕ) → Alike words row (set row 0 n)
alike_counted words row n = record { long = length-set row 0 n; same = λ i p h. get_or-set_other row 0 i n 0 (omega arith) }

-- the count of before makes the list's part what it was
pub front_back : (words : ℕ) (old new : List ℕ) → Alike words old new → 0 < length old → Front words old (set new 0 (get_or old 0 0))
front_back words old new a some =
    record {
      long = length-set new 0 _ ∙ a.long;
      same = λ i h.
          ⊎_elim (λ (e : i ≡ 0). rw e (get_or-set_same new 0 (get_or old 0 0) 0 (omega (arith, a.long))))
          (λ (ne : i ≡ 0 → ⊥). get_or-set_other new 0 i (get_or old 0 0) 0 ne ∙ a.same i (omega arith) h)
          (cases_eq i 0);
    }

-- a row that has the parts of a table counts what its first number says
count_first : (words : ℕ) (row : List ℕ) → default_at words (room row) ≤ length row → get_or row 0 0 ≤ room row → count_in words (stride words) row ≡ get_or row 0 0
count_first words row long fits = grind (arith, nat_tests)

-- a row alike that counts fewer routes has the first of the list
pub listed_first : (words : ℕ) (whole row : List ℕ) (k : ℕ) → Sound words whole → Alike words whole row → get_or row 0 0 ≡ k → k ≤ get_or whole 0 0 → listed words row ≡ take k (listed words whole)
listed_first words whole row k s a is less =
    let space = alike_room words whole row a in
    let fits = s.fewer in
    let long : default_at words (room whole) ≤ length whole = omega (arith, s.long) in
    let long-row : default_at words (room row) ≤ length row = rw (space, a.long) long in
    let n : count_in words (stride words) whole ≡ get_or whole 0 0 = count_first words whole long fits in
    let m : count_in words (stride words) row ≡ get_or row 0 0 = count_first words row long-row (omega arith) in
    let size : length (listed words row) ≡ k = length_routes words (stride words) row ∙ m ∙ is in
    let enough : k ≤ length (listed words whole) = omega (arith, length_routes words (stride words) whole) in
    ext_get_or no_route (listed words row) (take k (listed words whole)) (size ∙ sym (length-take-le k (listed words whole) enough))
    (λ j h.
    let low : j < k = omega arith in
    getD_routes words (stride words) row j (omega arith)
    ∙ route_same words (stride words) j j whole row (λ i few. a.same (slot (stride words) j + i) (omega arith) (omega (arith, next_slot (stride words) j (room whole) (omega arith))))
    ∙ sym (getD_routes words (stride words) whole j (omega arith))
    ∙ sym (get_or-take k (listed words whole) j no_route low))

-- what stands at a place of a list stands in the list
pub in_place : (rs : List Route) (k : ℕ) → k < length rs → In (get_or rs k no_route) rs
in_place [] k h = absurd (omega arith)
in_place (r ∷ rs) zero h = inl refl
in_place (r ∷ rs) (suc k) h = inr (in_place rs k (omega arith))

-- the first routes of a list in order are in order
take_order : (rs : List Route) (k : ℕ) → k ≤ length rs → InOrder rs → InOrder (take k rs)
take_order rs k le order i j h l =
    let size = length-take-le k rs le in
    rw (get_or-take k rs i no_route (omega arith), get_or-take k rs j no_route (omega arith)) (order i j h (omega arith))

-- one route more of a list in order is put to those before it
put_next : (rs : List Route) (k : ℕ) → k < length rs → InOrder rs → take (k + 1) rs ≡ put (get_or rs k no_route) (take k rs)
put_next rs k less order =
    let size = length-take-le k rs (omega arith) in
    take_more rs k no_route less
    ∙ sym (put_absent (take k rs) (get_or rs k no_route) (λ j l. rw (get_or-take k rs j no_route (omega arith)) (before_apart _ _ (order j k (omega arith) less))))

same_members : (xs ys : List Route) → xs ≡ ys → SameMembers xs ys
same_members xs ys e = rw e record { onward = λ d i. i; back = λ d i. i }

prefix_good : (w : ℕ) (r : Route) → good_route w r ≡ true → good_prefix w r.len r.bits ≡ true
unfolding good_route
prefix_good w r g = grind (arith, nat_tests)

-- a new count leaves what stands behind the list
counted_behind : (words : ℕ) (row : List ℕ) (n : ℕ) → Behind words row (set row 0 n)
counted_behind words row n =
    record { long = length-set row 0 n; space = get_or-set_other row 0 1 n 0 (omega arith); same = λ i h. get_or-set_other row 0 i n 0 (omega arith) }

-- where there is one more route, so many are listed
begun_long : (words : ℕ) (whole row : List ℕ) (k : ℕ) → Sound words whole → k < get_or whole 0 0 → Begun words whole row k → length (listed words (set row 0 (k + 1))) ≡ k + 1
begun_long words whole row k s less b =
    let long : default_at words (room whole) ≤ length whole = omega (arith, s.long) in
    let n : length (listed words whole) ≡ get_or whole 0 0 = length_routes words (stride words) whole ∙ count_first words whole long s.fewer in
    let count : get_or (set row 0 (k + 1)) 0 0 ≡ k + 1 = get_or-set_same row 0 (k + 1) 0 (omega (arith, b.alike.long)) in
    let am = alike_trans words whole row (set row 0 (k + 1)) b.alike (alike_counted words row (k + 1)) in
    let is = listed_first words whole (set row 0 (k + 1)) (k + 1) s am count (omega arith) in
    rw is (length-take-le (k + 1) (listed words whole) (omega arith))

-- it is read
pub begun_there : (words : ℕ) (whole row : List ℕ) (k : ℕ) → Sound words whole → k < get_or whole 0 0 → Begun words whole row k → k < length (listed words (set row 0 (k + 1)))
begun_there words whole row k s less b = omega (arith, begun_long words whole row k s less b)

-- it is the last
pub begun_last : (words : ℕ) (whole row : List ℕ) (k bits len hop : ℕ) → Sound words whole → k < get_or whole 0 0 → Begun words whole row k
    → route_of bits len hop ≡ get_or (listed words (set row 0 (k + 1))) k no_route → Last words (set row 0 (k + 1)) bits len hop
begun_last words whole row k bits len hop s less b read = record { place = k; ends = sym (begun_long words whole row k s less b); is = sym read }

-- one more route is counted and entered
pub begun_next : (words : ℕ) (whole row new : List ℕ) (k bits len hop : ℕ) (done : Bool) → Sound words whole → k < get_or whole 0 0 → Begun words whole row k
    → route_of bits len hop ≡ get_or (listed words (set row 0 (k + 1))) k no_route → Front words (set row 0 (k + 1)) new → Entered words (set row 0 (k + 1)) new len bits done
    → (done ≡ true) × Begun words whole new (k + 1)
begun_next words whole row new k bits len hop done s less b read f entered =
    let w : ℕ = width words in
    let mid : List ℕ = set row 0 (k + 1) in
    let rs : List Route = listed words whole in
    let long : default_at words (room whole) ≤ length whole = omega (arith, s.long) in
    let n : length (listed words whole) ≡ get_or whole 0 0 = length_routes words (stride words) whole ∙ count_first words whole long s.fewer in
    let count : get_or (set row 0 (k + 1)) 0 0 ≡ k + 1 = get_or-set_same row 0 (k + 1) 0 (omega (arith, b.alike.long)) in
    let am = alike_trans words whole row mid b.alike (alike_counted words row (k + 1)) in
    let was : listed words row ≡ take k (listed words whole) = listed_first words whole row k s b.alike b.count (omega arith) in
    let is : listed words (set row 0 (k + 1)) ≡ take (k + 1) (listed words whole) = listed_first words whole mid (k + 1) s am count (omega arith) in
    let at : route_of bits len hop ≡ get_or (listed words whole) k no_route = read ∙ ap (λ (xs : List Route). get_or xs k no_route) is ∙ get_or-take (k + 1) rs k no_route (omega arith) in
    let gx : good_route (width words) (route_of bits len hop) ≡ true = rw at (in_good w rs (get_or rs k no_route) s.proper (in_place rs k (omega arith))) in
    let order : InOrder (listed words (set row 0 (k + 1))) = rw is (take_order rs (k + 1) (omega arith) s.order) in
    let members : listed words (set row 0 (k + 1)) ≡ put (route_of bits len hop) (listed words row) = rw (at, was) (is ∙ put_next rs k (omega arith) s.order) in
    let p = put_map words row mid b.right (route_of bits len hop) gx order (same_members _ _ members) in
    let space = alike_room words whole row b.alike in
    let mapped = mapped_still words row mid (hops w (listed words row)) b.right (counted_behind words row (k + 1)) (omega (arith, s.fewer)) p.0 order in
    let e = entered (hops w (listed words row)) mapped (prefix_good w (route_of bits len hop) gx) p.1 p.2 in
    (e.0, record { alike = alike_trans words whole mid new am (alike_front words mid new f); count = f.same 0 (omega arith) ∙ count; right = e.1 })

-- where all routes are entered the row is right, and its count that of before
pub begun_all : (words : ℕ) (whole row : List ℕ) → Begun words whole row (get_or whole 0 0) → Right words (set row 0 (get_or whole 0 0))
begun_all words whole row b = rw (← b.count, set-get_or row 0 0) b.right

-- the writes that make a table of no routes leave the list's part
module _ (words at : ℕ) (old zeros : List ℕ) (is : at ≡ default_at words (room old)) (inside : at + 34 ≤ length old)
    (size : length zeros ≡ length (take (at + 34 - (at + 2)) (drop (at + 2) (set (set (set old 0 0) at 0) (at + 1) 1)))) where
  pub blank_alike : Alike words old (put_mid (at + 2) (at + 34 - (at + 2)) (set (set (set old 0 0) at 0) (at + 1) 1) zeros)
  blank_alike =
      let n : length (set (set (set old 0 0) at 0) (at + 1) 1) ≡ length old = simp length-set in
      record {
        long = same_len_mid (at + 2) (at + 34 - (at + 2)) (set (set (set old 0 0) at 0) (at + 1) 1) zeros size ∙ n;
        same = λ i p h. let low : i < at = omega arith in grind (arith, places, get_or-set_other);
      }

  pub blank_begun : ((y d : ℕ) → y < length zeros → get_or zeros y d ≡ 0) → 0 < words → Sound words old → Begun words old (put_mid (at + 2) (at + 34 - (at + 2)) (set (set (set old 0 0) at 0) (at + 1) 1) zeros) 0
  blank_begun all some s =
      let r : ℕ = room old in
      let e : set (set old 0 0) 1 (room old) ≡ set old 0 0 = ap (set (set old 0 0) 1) (sym (get_or-set_other old 0 1 0 0 (omega arith))) ∙ set-get_or (set old 0 0) 1 0 in
      let made = rw e at (blank_of words old zeros at (room old)) in
      let b = made is s.long s.small size all in
      record { alike = blank_alike; count = b.count; right = (blank_right words _ (room old) some b).0 }
