-- An empty table is right. Assumes nothing.
use Rattle.std.proofs.Common.{◌≡◌, ℕ, ◌+◌, ◌-◌, ◌^◌, ◌<◌, ◌≤◌, true, List, [], length, get_or, take, drop, set, sym, refl, ap, ◌∙◌, arith}
use borrow.Rule.Slice.PartMut.{put_mid, same_len_mid}
use Rattle.std.proofs.lemmas.List.{places, length-set, length-drop, length-take-le, get_or-set_same, get_or-set_other, get_or-drop, nil_from_length}
use Rattle.std.proofs.lemmas.Bool.Decides.{nat_tests}
use Rattle.prefix.specs.Words.{width}
use Rattle.prefix.specs.Routes.{Route, held, good, InOrder}
use Rattle.prefix.specs.Map.{hops}
use Rattle.routes.specs.Rows.{count_in}
use Rattle.routes.proofs.Lists.{length_routes}
use Rattle.trie.specs.Shape.{TrieOf}
use Rattle.trie.proofs.Theorems.{empty}
use Rattle.table.specs.Right.{Right, stride, room, most_nodes, default_at, row_length, listed, nodes, trie}

-- a row with these numbers, whatever else it holds
pub record Blank (words : ℕ) (row : List ℕ) (wanted : ℕ) : Type 0 where
  pub long : length row ≡ row_length words wanted
  pub small : most_nodes words wanted < 2 ^ 32
  pub count : get_or row 0 0 ≡ 0
  pub room_is : get_or row 1 0 ≡ wanted
  pub none : get_or row (default_at words wanted) 0 ≡ 0
  pub one : get_or row (default_at words wanted + 1) 0 ≡ 1
  pub zeros : (y : ℕ) → y < 32 → get_or row (default_at words wanted + 2 + y) 0 ≡ 0

right_none : (words : ℕ) (row : List ℕ) (rs : List Route) → rs ≡ [] → (good (width words) rs ≡ true) × InOrder rs × (hops (width words) rs 0 0 ≡ 0)
unfolding good hops held
right_none words row rs e = rw e (refl, λ i j h l. absurd (omega arith), refl)

pub blank_right : (words : ℕ) (row : List ℕ) (wanted : ℕ) → 0 < words → Blank words row wanted → Right words row × (listed words row ≡ []) × (room row ≡ wanted)
blank_right words row wanted pos b =
    let none-there : count_in words (stride words) row ≡ 0 = let c = b.count in grind (arith, nat_tests) in
    let rs-none : listed words row ≡ [] = nil_from_length _ (length_routes words (stride words) row ∙ none-there) in
    let p = right_none words row (listed words row) rs-none in
    let at : default_at words (room row) ≡ default_at words wanted = ap (default_at words) b.room_is in
    let part : drop (default_at words wanted + 2) row ≡ trie words row = ap (λ (n : ℕ). drop (n + 2) row) (sym at) in
    let long : 32 ≤ length (drop (default_at words wanted + 2) row) = rw length-drop (omega (arith, b.long)) in
    let t : TrieOf (width words) (hops (width words) []) (drop (default_at words wanted + 2) row) 1 =
    empty (width words) (drop (default_at words wanted + 2) row) (omega arith) long (λ y l. get_or-drop (default_at words wanted + 2) row y 0 ∙ b.zeros y l) in
    let count : nodes words row ≡ 1 = ap (λ (n : ℕ). get_or row (n + 1) 0) at ∙ b.one in (
      record {
        long = rw b.room_is b.long;
        small = rw b.room_is b.small;
        fewer = omega (arith, b.count);
        proper = p.0;
        order = p.1;
        default_is = ap (λ (n : ℕ). get_or row n 0) at ∙ b.none ∙ sym p.2;
        trie_is = rw (rs-none, count, ← part) t;
      },
      rs-none,
      b.room_is,
    )

-- the writes that make one
pub blank_of : (words : ℕ) (old zeros : List ℕ) (at wanted : ℕ) → at ≡ default_at words wanted → length old ≡ row_length words wanted → most_nodes words wanted < 2 ^ 32 → length zeros ≡ length (take (at + 34 - (at + 2)) (drop (at + 2) (set (set (set (set old 0 0) 1 wanted) at 0) (at + 1) 1)))
    → ((y d : ℕ) → y < length zeros → get_or zeros y d ≡ 0) → Blank words (put_mid (at + 2) (at + 34 - (at + 2)) (set (set (set (set old 0 0) 1 wanted) at 0) (at + 1) 1) zeros) wanted
blank_of words old zeros at wanted is long small same all =
    let mid : List ℕ = set (set (set (set old 0 0) 1 wanted) at 0) (at + 1) 1 in
    let n : length (set (set (set (set old 0 0) 1 wanted) at 0) (at + 1) 1) ≡ length old = simp length-set in
    let bound : at + 34 ≤ length old = omega arith in
    let size : length zeros ≡ 32 = same ∙ length-take-le (at + 34 - (at + 2)) (drop (at + 2) mid) (rw (length-drop, n) (omega arith)) ∙ omega arith in
    record {
      long = same_len_mid (at + 2) (at + 34 - (at + 2)) mid zeros same ∙ n ∙ long;
      small = small;
      count = grind (arith, places, get_or-set_same, get_or-set_other, length-set);
      room_is = grind (arith, places, get_or-set_same, get_or-set_other, length-set);
      none = rw (← is) (grind (arith, places, get_or-set_same, get_or-set_other, length-set));
      one = rw (← is) (grind (arith, places, get_or-set_same, get_or-set_other, length-set));
      zeros = λ y l. rw (← is) (let z = all y 0 (omega arith) in grind (arith, places));
    }
