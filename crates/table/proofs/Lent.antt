-- The last part of a row lent on: what the row holds afterwards, part by part. Assumes nothing.
use Rattle.std.proofs.Common.{◌≡◌, ℕ, ◌+◌, ◌-◌, ◌<◌, ◌≤◌, List, length, get_or, take, drop, set, sym, ap, ◌∙◌, subst, arith}
use borrow.Rule.Slice.PartMut.{put_mid, same_len_mid}
use Rattle.std.proofs.lemmas.List.{places, ext_get_or, length-drop, length-take-le, length-set, get_or-drop, get_or-set_same, get_or-set_other, drop-set-lt, take_all}
use Rattle.routes.proofs.Moves.{same_front}
use Rattle.table.specs.Right.{stride, room, default_at, listed, nodes, trie}
use Rattle.table.specs.Follows.{Front, Beside}

-- a row whose last part, from a place on, was lent and is now another
pub record Tail (from : ℕ) (old new part : List ℕ) : Type 0 where
  pub long : length new ≡ length old
  pub front : (i : ℕ) → i < from → get_or new i 0 ≡ get_or old i 0
  pub tail : drop from new ≡ part

pub lent_tail : (from : ℕ) (old part : List ℕ) → from ≤ length old → length part ≡ length (take (length old - from) (drop from old)) → Tail from old (put_mid from (length old - from) old part) part
lent_tail from old part le same =
    let size : length part ≡ length old - from = same ∙ length-take-le (length old - from) (drop from old) (rw length-drop (omega arith)) in
    let long : length (put_mid from (length old - from) old part) ≡ length old = same_len_mid from (length old - from) old part same in
    record {
      long = long;
      front = λ i h. grind (arith, places);
      tail = ext_get_or 0 (drop from (put_mid from (length old - from) old part)) part (length-drop from _ ∙ omega arith) (λ i h. let low : i < length part = omega (arith, length-drop from (put_mid from (length old - from) old part)) in get_or-drop from _ i 0 ∙ grind (arith, places));
    }

-- as it was lent: from the place on, the whole
pub lent_part : (from : ℕ) (old : List ℕ) → take (length old - from) (drop from old) ≡ drop from old
lent_part from old = take_all (length old - from) (drop from old) (rw length-drop (omega arith))

-- the front of a row is kept: its room and its list
pub front_room : (words : ℕ) (old new : List ℕ) → Front words old new → room new ≡ room old
front_room words old new f = f.same 1 (omega arith)

pub front_listed : (words : ℕ) (old new : List ℕ) → Front words old new → listed words new ≡ listed words old
front_listed words old new f = same_front words (stride words) old new f.long f.same

pub front_trans : (words : ℕ) (old mid new : List ℕ) → Front words old mid → Front words mid new → Front words old new
front_trans words old mid new f g =
    let r = front_room words old mid f in
    record { long = g.long ∙ f.long; same = λ i h. g.same i (rw r h) ∙ f.same i h }

pub beside_trans : (words : ℕ) (old mid new : List ℕ) → Beside words old mid → Beside words mid new → Beside words old new
beside_trans words old mid new f g =
    let r = front_room words old mid f.front in
    record { front = front_trans words old mid new f.front g.front; default_same = (rw r at g.default_same) ∙ f.default_same }

-- the part of the nodes was lent, and then the count written: list and default are as they were, and the nodes are what came back
module _ (words at n : ℕ) (old mid part : List ℕ) (is : at ≡ default_at words (room old)) (t : Tail (at + 2) old mid part) where
  tail_front : Front words old (set mid (at + 1) n)
  tail_front = record { long = length-set _ _ _ ∙ t.long; same = λ i h. get_or-set_other mid (at + 1) i n 0 (omega arith) ∙ t.front i (omega arith) }

  pub tail_beside : Beside words old (set mid (at + 1) n)
  tail_beside =
      record { front = tail_front; default_same = rw (← is) (get_or-set_other mid (at + 1) at n 0 (omega arith) ∙ t.front at (omega arith)) }

  pub tail_nodes : at + 2 ≤ length old → nodes words (set mid (at + 1) n) ≡ n
  tail_nodes le =
      rw (front_room words old (set mid (at + 1) n) tail_front, ← is) (get_or-set_same mid (at + 1) n 0 (omega (arith, t.long)))

  pub tail_trie : trie words (set mid (at + 1) n) ≡ part
  tail_trie = rw (front_room words old (set mid (at + 1) n) tail_front, ← is) (drop-set-lt (at + 2) mid (at + 1) n (omega arith) ∙ t.tail)

-- the part was lent, and nothing else written
module _ (words at : ℕ) (old new part : List ℕ) (is : at ≡ default_at words (room old)) (t : Tail (at + 2) old new part) where
  lent_front : Front words old new
  lent_front = record { long = t.long; same = λ i h. t.front i (omega arith) }

  pub lent_beside : Beside words old new
  lent_beside = record { front = lent_front; default_same = rw (← is) (t.front at (omega arith)) }

  pub lent_count : nodes words new ≡ nodes words old
  lent_count = rw (front_room words old new lent_front, ← is) (t.front (at + 1) (omega arith))

  pub lent_trie : trie words new ≡ part
  lent_trie = rw (front_room words old new lent_front, ← is) t.tail

-- the nodes as they are lent
pub part_is : (words at : ℕ) (row : List ℕ) → at ≡ default_at words (room row) → take (length row - (at + 2)) (drop (at + 2) row) ≡ trie words row
part_is words at row is = lent_part (at + 2) row ∙ ap (λ (n : ℕ). drop (n + 2) row) is

pub count_is : (words at : ℕ) (row : List ℕ) → at ≡ default_at words (room row) → get_or row (at + 1) 0 ≡ nodes words row
count_is words at row is = ap (λ (n : ℕ). get_or row (n + 1) 0) is

-- what holds of a row holds of one that is the same
pub of_same : (P : List ℕ → Type 0) (new was : List ℕ) → new ≡ was → P was → P new
of_same P new was e p = subst P (sym e) p
