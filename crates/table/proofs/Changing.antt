-- A change of the list: what the row is between it and the change of the trie. Assumes nothing.
use Rattle.std.proofs.Common.{◌≡◌, ℕ, suc, ◌+◌, ◌-◌, ◌*◌, ◌^◌, ◌<◌, ◌≤◌, true, false, ◌≢◌, List, [], ◌∷◌, length, get_or, drop, Some, None, Ok, Err, Option, sym, refl, ap, ◌∙◌, subst, inl, inr, ⊎_elim, arith}
use Rattle.std.proofs.lemmas.List.Edits.{length-insert, length-remove}
use Rattle.std.proofs.lemmas.List.{ext_get_or, length-drop, get_or-drop, get_or-set_same, get_or-set_other}
use Rattle.std.proofs.lemmas.Bool.{cases_Bool, eq-eqb, eqb-true}
use Rattle.std.proofs.lemmas.Bool.Decides.{nat_tests}
use Rattle.prefix.specs.Words.{width}
use Rattle.prefix.specs.Routes.{Route, route_of, no_route, first, good, good_prefix, good_route, same_prefix, absent, before, put, away, held, In, InOrder, SameMembers}
use Rattle.prefix.specs.Map.{Hops, hops, set_at}
use Rattle.prefix.proofs.Good.{aligned, in_good, good_put, good_away}
use Rattle.prefix.proofs.Edits.{held_in}
use Rattle.prefix.proofs.Map.{hops_put, hops_away, hops_members}
use Rattle.routes.specs.Rows.{slot, listing, count_in, room_in, routes}
use Rattle.routes.specs.declared.edits.Full.{Full}
use Rattle.routes.specs.Searches.{Found, Missing}
use Rattle.routes.specs.Changes.{Added, Replaced, Removed, InsertSays, InsertKeeps, RemoveSays, RemoveKeeps}
use Rattle.routes.proofs.Slots.{next_slot, slots_rise, count_room, with_room, room_is}
use Rattle.routes.proofs.Lists.{length_routes}
use Rattle.trie.specs.Places.{Apart}
use Rattle.table.specs.Changes.{PutFull, AwayNone}
use Rattle.table.specs.Right.{Mapped, Right, stride, room, row_length, default_at, listed, nodes, trie}

-- a list in order whose members are good is good
absent_all : (r : Route) (rs : List Route) → ((j : ℕ) → j < length rs → before r (get_or rs j no_route) ≡ true) → absent r rs ≡ true
unfolding absent same_prefix
absent_all r [] all = refl
absent_all r (s ∷ ss) all =
    let here = all 0 (omega arith) in
    let rest = absent_all r ss (λ j l. all (suc j) (omega arith)) in
    grind (arith, nat_tests)

pub ordered_good : (w : ℕ) (rs : List Route) → InOrder rs → ((e : Route) → In e rs → good_route w e ≡ true) → good w rs ≡ true
unfolding good
ordered_good w [] order each = refl
ordered_good w (r ∷ rs) order each =
    let here = each r (inl refl) in
    let apart = absent_all r rs (λ j l. order 0 (suc j) (omega arith) (omega arith)) in
    let rest = ordered_good w rs (λ i j h l. order (suc i) (suc j) (omega arith) (omega arith)) (λ e i. each e (inr i)) in
    grind (arith, nat_tests)

-- the list's part of the row changed, and nothing behind it
pub record Behind (words : ℕ) (old new : List ℕ) : Type 0 where
  pub long : length new ≡ length old
  pub space : room new ≡ room old
  pub same : (i : ℕ) → default_at words (room old) ≤ i → get_or new i 0 ≡ get_or old i 0

-- so the default and the trie are as they were
pub mapped_still : (words : ℕ) (old new : List ℕ) (m : Hops) → Mapped words old m → Behind words old new → get_or new 0 0 ≤ room old → good (width words) (listed words new) ≡ true → InOrder (listed words new) → Mapped words new m
mapped_still words old new m r b fewer proper order =
    let at = b.space in
    let part : trie words new ≡ trie words old = rw at
    (ext_get_or 0 (drop (default_at words (room old) + 2) new) (drop (default_at words (room old) + 2) old) (length-drop _ new ∙ omega (arith, b.long, length-drop (default_at words (room old) + 2) old))
    (λ i h. get_or-drop _ new i 0 ∙ b.same _ (omega arith) ∙ sym (get_or-drop _ old i 0))) in
    let count : nodes words new ≡ nodes words old = rw at (b.same _ (omega arith)) in
    record {
      long = b.long ∙ r.long ∙ ap (row_length words) (sym at);
      small = rw at r.small;
      fewer = rw at fewer;
      proper = proper;
      order = order;
      default_is = (rw at (b.same _ (omega arith))) ∙ r.default_is;
      trie_is = rw (part, count) r.trie_is;
    }

-- the bits of a good prefix from its first ones
pub bits_back : (w len bits : ℕ) → good_prefix w len bits ≡ true → first w len bits * 2 ^ (w - len) ≡ bits
bits_back w len bits g = sym (eqb-true bits _ (aligned w len bits (first w len bits) g ∙ eq-eqb _ _ refl))

-- what a change of a route list needs to know of the map: it differs at one prefix
module _ (words : ℕ) (old new : List ℕ) (r : Right words old) where
  -- of a list that was put into
  pub put_map : (x : Route) → good_route (width words) x ≡ true → InOrder (listed words new) → SameMembers (listed words new) (put x (listed words old))
      → (good (width words) (listed words new) ≡ true) × Apart (hops (width words) (listed words old)) (hops (width words) (listed words new)) x.len (first (width words) x.len x.bits)
      × (hops (width words) (listed words new) x.len (first (width words) x.len x.bits) ≢ 0)
  put_map x gx order same =
      let w : ℕ = width words in
      let gp = good_put w x (listed words old) gx r.proper in
      let gn = ordered_good w (listed words new) order (λ e i. in_good w (put x (listed words old)) e gp (same.onward e i)) in
      let is : (a b : ℕ) → hops w (listed words new) a b ≡ set_at (hops w (listed words old)) x.len (first w x.len x.bits) (suc x.hop) a b =
      λ a b. hops_members w (listed words new) (put x (listed words old)) a b gn gp same ∙ hops_put w x (listed words old) a b gx in
      (gn, λ a b n. let e = is a b in grind (arith, nat_tests), let e = is x.len (first w x.len x.bits) in grind (arith, nat_tests))

  -- of a list that was taken from
  pub away_map : (len bits : ℕ) → good_prefix (width words) len bits ≡ true → InOrder (listed words new) → SameMembers (listed words new) (away len bits (listed words old))
      → (good (width words) (listed words new) ≡ true) × Apart (hops (width words) (listed words old)) (hops (width words) (listed words new)) len (first (width words) len bits)
  away_map len bits gp order same =
      let w : ℕ = width words in
      let ga = good_away w len bits (listed words old) r.proper in
      let gn = ordered_good w (listed words new) order (λ e i. in_good w (away len bits (listed words old)) e ga (same.onward e i)) in
      let is : (a b : ℕ) → hops w (listed words new) a b ≡ set_at (hops w (listed words old)) len (first w len bits) 0 a b =
      λ a b. hops_members w (listed words new) (away len bits (listed words old)) a b gn ga same ∙ hops_away w len bits (listed words old) a b gp r.proper in
      (gn, λ a b n. let e = is a b in grind (arith, nat_tests))

-- a change of the list leaves what is behind it
module _ (words : ℕ) (old new : List ℕ) (m : Hops) (r : Mapped words old m) (long : length new ≡ length old) where
  pub added_behind : (x : Route) (k : ℕ) → Missing (listed words old) x.bits x.len k → Added words (stride words) old new x k → Behind words old new × (get_or new 0 0 ≤ room old)
  added_behind x k miss a =
      let n : ℕ = count_in words (stride words) old in
      let size = length_routes words (stride words) old in
      let grown : suc n ≡ count_in words (stride words) new =
      omega (arith, length-insert (listed words old) k x miss.place.within, ap length a.list, length_routes words (stride words) new) in
      let less : n < room_in words (stride words) old = omega (arith, a.room, count_room words (stride words) new) in
      let l = with_room words (stride words) old n less in
      let at = room_is words (stride words) old l in
      let pos : 0 < length old = omega (arith, l.long) in
      let far = next_slot (stride words) n (room old) (omega arith) in (
        record {
          long = long;
          space = a.moved.before 1 (omega arith) ∙ get_or-set_other old 0 1 (suc n) 0 (omega arith);
          same = λ i h. a.moved.behind i (omega arith) ∙ get_or-set_other old 0 i (suc n) 0 (omega arith);
        },
        omega (arith, a.moved.before 0 (omega arith), get_or-set_same old 0 (suc n) 0 pos),
      )

  pub replaced_behind : (x : Route) (k : ℕ) → Found (listed words old) x.bits x.len k → Replaced words (stride words) old new x k → Behind words old new × (get_or new 0 0 ≤ room old)
  replaced_behind x k f a =
      let size = length_routes words (stride words) old in
      let l = with_room words (stride words) old k (omega (arith, f.within, count_room words (stride words) old)) in
      let at = room_is words (stride words) old l in
      let far = next_slot (stride words) k (room old) (omega (arith, f.within, count_room words (stride words) old)) in
      let other : (i : ℕ) → i ≢ slot (stride words) k + (words + 1) → get_or new i 0 ≡ get_or old i 0 =
      λ i ne. ap (λ (xs : List ℕ). get_or xs i 0) a.row ∙ get_or-set_other old (slot (stride words) k + (words + 1)) i x.hop 0 ne in
      (record { long = long; space = other 1 (omega arith); same = λ i h. other i (omega arith) }, omega (arith, other 0 (omega arith), r.fewer))

  pub removed_behind : (bits len k : ℕ) → Found (listed words old) bits len k → Removed words (stride words) old new k → Behind words old new × (get_or new 0 0 ≤ room old)
  removed_behind bits len k f a =
      let n : ℕ = count_in words (stride words) old in
      let size = length_routes words (stride words) old in
      let l = with_room words (stride words) old k (omega (arith, f.within, count_room words (stride words) old)) in
      let at = room_is words (stride words) old l in
      let pos : 0 < length old = omega (arith, l.long) in
      let far = slots_rise (stride words) n (room old) (omega (arith, count_room words (stride words) old)) in (
        record {
          long = long;
          space = a.moved.before 1 (omega arith) ∙ get_or-set_other old 0 1 (n - 1) 0 (omega arith);
          same = λ i h. a.moved.behind i (omega arith) ∙ get_or-set_other old 0 i (n - 1) 0 (omega arith);
        },
        omega (arith, a.moved.before 0 (omega arith), get_or-set_same old 0 (n - 1) 0 pos, count_room words (stride words) old),
      )

-- what `enter` and `leave` need after a change of the list of a right table
pub record PutOpen (words : ℕ) (old new : List ℕ) (x : Route) : Type 0 where
  pub mapped : Mapped words new (hops (width words) (listed words old))
  pub apart : Apart (hops (width words) (listed words old)) (hops (width words) (listed words new)) x.len (first (width words) x.len x.bits)
  pub there : hops (width words) (listed words new) x.len (first (width words) x.len x.bits) ≢ 0
  pub members : SameMembers (listed words new) (put x (listed words old))
  pub space : room new ≡ room old

pub put_open : (words : ℕ) (old new : List ℕ) (x : Route) (was : Option ℕ) → Right words old → length new ≡ length old → good_route (width words) x ≡ true → InsertSays words (stride words) old new x (Ok was)
    → InsertKeeps (listed words old) (listed words new) x (Ok was) → PutOpen words old new x
put_open words old new x was r long gx says keeps =
    let k = keeps r.order in
    let map = put_map words old new r x gx k.order k.members in
    let b = behind was says in
    record { mapped = mapped_still words old new _ r b.0 b.1 map.0 k.order; apart = map.1; there = map.2; members = k.members; space = b.0.space }
  where
    behind : (o : Option ℕ) → InsertSays words (stride words) old new x (Ok o) → Behind words old new × (get_or new 0 0 ≤ room old)
    behind None (k, missing, a) = added_behind words old new _ r long x k missing a
    behind (Some hop) (k, found, is, a) = replaced_behind words old new _ r long x k found a

pub record AwayOpen (words : ℕ) (old new : List ℕ) (len bits : ℕ) : Type 0 where
  pub proper : good_prefix (width words) len bits ≡ true
  pub mapped : Mapped words new (hops (width words) (listed words old))
  pub apart : Apart (hops (width words) (listed words old)) (hops (width words) (listed words new)) len (first (width words) len bits)
  pub there : hops (width words) (listed words old) len (first (width words) len bits) ≢ 0
  pub members : SameMembers (listed words new) (away len bits (listed words old))
  pub space : room new ≡ room old
  pub fewer : suc (length (listed words new)) ≡ length (listed words old)

-- the prefix of a route of a good list is one
pub prefix_good : (w : ℕ) (r : Route) → good_route w r ≡ true → good_prefix w r.len r.bits ≡ true
unfolding good_route
prefix_good w r g = grind (arith, nat_tests)

pub away_open : (words : ℕ) (old new : List ℕ) (bits len hop : ℕ) → Right words old → length new ≡ length old → RemoveSays words (stride words) old new bits len (Some hop)
    → RemoveKeeps (listed words old) (listed words new) bits len (Some hop) → AwayOpen words old new len bits
unfolding hops
away_open words old new bits len hop r long (k, found, is, a) keeps =
    let kept = keeps r.order in
    let inside = (held_in (width words) (route_of bits len hop) (listed words old) r.proper).0 kept.held_before in
    let gp = prefix_good (width words) (route_of bits len hop) (in_good (width words) (listed words old) (route_of bits len hop) r.proper inside) in
    let map = away_map words old new r len bits gp kept.order kept.members in
    let b = removed_behind words old new _ r long bits len k found a in
    let back = bits_back (width words) len bits gp in
    record {
      proper = gp;
      mapped = mapped_still words old new _ r b.0 b.1 map.0 kept.order;
      apart = map.1;
      there = λ z. let e : held len bits (listed words old) ≡ 0 = (rw back at z) in omega (arith, kept.held_before);
      members = kept.members;
      space = b.0.space;
      fewer = omega (arith, length-remove (listed words old) k found.within, ap length a.list);
    }

-- of a prefix that a list does not hold, putting adds and taking away leaves
pub put_more : (r : Route) (rs : List Route) → held r.len r.bits rs ≡ 0 → length (put r rs) ≡ suc (length rs)
unfolding put held same_prefix
put_more r [] e = refl
put_more r (s ∷ ss) e =
    ⊎_elim
    (λ (t : same_prefix r s ≡ true). absurd (let z : suc s.hop ≡ 0 = grind (arith, nat_tests) in omega arith))
    (λ (f : same_prefix r s ≡ false). let rest : held r.len r.bits ss ≡ 0 = grind (arith, nat_tests) in rw f (ap suc (put_more r ss rest)))
    (cases_Bool (same_prefix r s))

pub away_less : (len bits : ℕ) (rs : List Route) → held len bits rs ≡ 0 → away len bits rs ≡ rs
unfolding away held
away_less len bits [] e = refl
away_less len bits (s ∷ ss) e = let ih : held len bits ss ≡ 0 → away len bits ss ≡ ss = away_less len bits ss in grind (arith, nat_tests)

-- a full list of a right table
pub put_full_list : (words : ℕ) (old new : List ℕ) (x : Route) (full : Full) → Right words old → InsertSays words (stride words) old new x (Err full) → InsertKeeps (listed words old) (listed words new) x (Err full)
    → PutFull words old new x
put_full_list words old new x full r (k, missing, all, same) keeps =
    let none = keeps r.order in
    let size = length_routes words (stride words) old in
    let wide : listing words (stride words) old ≡ true = let l = r.long in let f = r.fewer in grind (arith, nat_tests) in
    let space : room_in words (stride words) old ≡ room old = grind (arith, nat_tests) in
    record { full = size ∙ all ∙ space; more = put_more x (listed words old) none ∙ ap suc (size ∙ all ∙ space); same = same }

-- the same, as the code passes the stride
module _ (words n : ℕ) (e : n ≡ words) (old new : List ℕ) (r : Right words old) where
  pub put_at : (x : Route) (was : Option ℕ) → length new ≡ length old → good_route (width words) x ≡ true → InsertSays words (n + 2) old new x (Ok was)
      → InsertKeeps (routes words (n + 2) old) (routes words (n + 2) new) x (Ok was) → PutOpen words old new x
  put_at x was long gx says keeps =
      put_open words old new x was r long gx (subst (λ (k : ℕ). InsertSays words (k + 2) old new x (Ok was)) e says)
      (subst (λ (k : ℕ). InsertKeeps (routes words (k + 2) old) (routes words (k + 2) new) x (Ok was)) e keeps)

  pub full_at : (x : Route) (full : Full) → InsertSays words (n + 2) old new x (Err full) → InsertKeeps (routes words (n + 2) old) (routes words (n + 2) new) x (Err full) → PutFull words old new x
  full_at x full says keeps =
      put_full_list words old new x full r (subst (λ (k : ℕ). InsertSays words (k + 2) old new x (Err full)) e says)
      (subst (λ (k : ℕ). InsertKeeps (routes words (k + 2) old) (routes words (k + 2) new) x (Err full)) e keeps)

  pub away_at : (bits len hop : ℕ) → length new ≡ length old → RemoveSays words (n + 2) old new bits len (Some hop) → RemoveKeeps (routes words (n + 2) old) (routes words (n + 2) new) bits len (Some hop)
      → AwayOpen words old new len bits
  away_at bits len hop long says keeps =
      away_open words old new bits len hop r long (subst (λ (k : ℕ). RemoveSays words (k + 2) old new bits len (Some hop)) e says)
      (subst (λ (k : ℕ). RemoveKeeps (routes words (k + 2) old) (routes words (k + 2) new) bits len (Some hop)) e keeps)

  pub none_at : (bits len : ℕ) → RemoveSays words (n + 2) old new bits len None → AwayNone words old new len bits
  none_at bits len says = go (subst (λ (k : ℕ). RemoveSays words (k + 2) old new bits len None) e says)
    where
      go : RemoveSays words (words + 2) old new bits len None → AwayNone words old new len bits
      go (k, missing, same) = record { none = away_less len bits (listed words old) (missing.none r.order); same = same }
