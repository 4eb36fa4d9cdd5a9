-- A node moved to a free number: what the writes leave of the row, and which nodes are free then. For the proofs of `move_last`, `close_one`, `close_all` and `prune`. Assumes nothing.
use Rattle.std.proofs.Common.{◌≡◌, ℕ, ◌+◌, ◌-◌, ◌*◌, ◌/◌, ◌%◌, ◌<◌, ◌≤◌, ◌≢◌, ◌⊎◌, List, ◌++◌, length, take, drop, get_or, set, sym, refl, ap, ◌∙◌, subst, inl, inr, ⊎_elim, arith}
use Rattle.std.proofs.lemmas.List.{get_or-set_same, get_or-set_other, get_or-take, get_or_append_left, length-take-le}
use Rattle.std.proofs.lemmas.Bool.{cases_eq, cases_lt, eq-eqb, ne_eqb}
use Rattle.prefix.specs.Map.{Hops}
use Rattle.trie.specs.Nodes.{said, goes}
use Rattle.trie.specs.Shape.{TrieOf}
use Rattle.trie.proofs.Shapes.{cell_cases, one_name}
use Rattle.trie.proofs.Changes.{from, to, Moved, move, same_live}
use Rattle.trie.proofs.Rows.{same_node, link_here, link_else, link_words}
use Rattle.prune.specs.Free.{Used, Differ, Loose, Partly, Names}

-- node last has been copied over node j
pub record Copied (t t' : List ℕ) (nodes j last : ℕ) : Type 0 where
  pub kept : (a y : ℕ) → a < nodes → a ≢ j → y < 32 → get_or t' (32 * a + y) 0 ≡ get_or t (32 * a + y) 0
  pub copied : (y : ℕ) → y < 32 → get_or t' (32 * j + y) 0 ≡ get_or t (32 * last + y) 0

-- each cell is then what it was in the node that stands there now
copied_cell : (t t' : List ℕ) (nodes j last : ℕ) → Copied t t' nodes j last → (a b : ℕ) → a < nodes → b < 16
    → (said t' a b ≡ said t (from j last a) b) × (goes t' a b ≡ goes t (from j last a) b)
copied_cell t t' nodes j last c a b l s =
    ⊎_elim
    (λ (e : a ≡ j). rw (eq-eqb a j e) (rw e (same_node t t' last j c.copied b s)))
    (λ (n : a ≢ j). rw (ne_eqb a j n) (same_node t t' a a (λ y. c.kept a y l n) b s))
    (cases_eq a j)

module _ {w : ℕ} {m : Hops} {t : List ℕ} {nodes : ℕ} {free : List ℕ} {left : ℕ} (h : Loose w m t (Used nodes free left)) (last j place : ℕ)
    (one : nodes ≡ last + 1) (hole : Used nodes free left j → ⊥) (live : Used nodes free left last) (low : j < last)
    (names : Names t nodes last place) (used : (p : ℕ) → p < left → get_or free p 0 ≢ place / 32) where
  cell : place ≡ 32 * (place / 32) + (2 * (place % 32 / 2) + 1)
  cell = omega (arith, names.odd)

  parent : Used nodes free left (place / 32)
  parent = record { below = omega (arith, names.low); off = used }

  small : place % 32 / 2 < 16
  small = omega arith

  named : goes t (place / 32) (place % 32 / 2) ≡ last
  unfolding goes
  named = ap (λ (x : ℕ). get_or t x 0) (sym cell) ∙ names.holds

  -- a node does not name itself
  other : place / 32 ≢ last
  other e =
      let c = h.shape.goes_on (place / 32) (place % 32 / 2) parent small (λ z. omega (arith, named)) in
      omega (arith, c.deep, ap h.depth named, ap h.depth e)

  -- nor does the free number hold the cell
  apart : place / 32 ≢ j
  apart e = hole (subst (Used nodes free left) e parent)

  below : (a : ℕ) → Moved (Used nodes free left) j last a → a < nodes
  below a = ⊎_elim (λ (e : a ≡ j). omega arith) (λ (x : Used nodes free left a × (a ≢ last)). x.0.below)

  source : (a : ℕ) → Moved (Used nodes free left) j last a → Used nodes free left (from j last a)
  source a =
      ⊎_elim (λ (e : a ≡ j). rw (eq-eqb a j e) live)
      (λ (x : Used nodes free left a × (a ≢ last)). rw (ne_eqb a j (λ (e : a ≡ j). hole (subst (Used nodes free left) e x.0))) x.0)

  module _ (t₁ t₂ : List ℕ) (long : 32 * nodes ≤ length t₁) (c : Copied t t₁ nodes j last)
      (same : (x : ℕ) → x < 32 * nodes → get_or t₂ x 0 ≡ get_or (set t₁ place j) x 0) where
    as_set : (x : ℕ) → x < 32 * nodes → get_or t₂ x 0 ≡ get_or (set t₁ (32 * (place / 32) + (2 * (place % 32 / 2) + 1)) j) x 0
    as_set x l = same x l ∙ ap (λ (p : ℕ). get_or (set t₁ p j) x 0) cell

    words : (a b : ℕ) → Moved (Used nodes free left) j last a → b < 16 → said t₂ a b ≡ said t (from j last a) b
    unfolding said
    words a b l s =
        let n = below a l in
        as_set _ (omega arith) ∙ link_words t₁ (place / 32) (place % 32 / 2) j small a b ∙ (copied_cell t t₁ nodes j last c a b n s).0

    -- the cell that named last names j, and no other did
    links : (a b : ℕ) → Moved (Used nodes free left) j last a → b < 16 → goes t₂ a b ≡ to j last (goes t (from j last a) b)
    unfolding goes
    links a b l s =
        let n = below a l in
        as_set _ (omega arith)
        ∙ ⊎_elim
        (λ (e : (a ≡ place / 32) × (b ≡ place % 32 / 2)).
        let f : from j last a ≡ place / 32 = rw (ne_eqb a j (λ (z : a ≡ j). apart (sym e.0 ∙ z))) e.0 in
        let g : goes t (from j last a) b ≡ last = rw (f, e.1) named in
        let v : goes (set t₁ (32 * (place / 32) + (2 * (place % 32 / 2) + 1)) j) a b ≡ j = rw (e.0, e.1) (link_here t₁ (place / 32) (place % 32 / 2) j small (omega (arith, names.low))) in
        v ∙ sym (rw (eq-eqb (goes t (from j last a) b) last g)))
        (λ (o : a ≡ place / 32 → b ≡ place % 32 / 2 → ⊥).
        let ne : goes t (from j last a) b ≢ last = λ g.
        let r = one_name h.shape (from j last a) b (place / 32) (place % 32 / 2) (source a l) s parent small (g ∙ sym named) (λ z. omega (arith, named)) in
        ⊎_elim (λ (z : a ≡ j). other (sym r.0 ∙ rw (eq-eqb a j z)))
        (λ (z : a ≢ j). o (sym (rw (ne_eqb a j z)) ∙ r.0) r.1) (cases_eq a j) in
        link_else t₁ (place / 32) (place % 32 / 2) j small a b s o ∙ (copied_cell t t₁ nodes j last c a b n s).1 ∙ sym (rw (ne_eqb (goes t (from j last a) b) last ne)))
        (cell_cases a b (place / 32) (place % 32 / 2))

    pub moved : Loose w m t₂ (Moved (Used nodes free left) j last)
    moved =
        record {
          depth = λ a. h.depth (from j last a);
          path = λ a. h.path (from j last a);
          shape = move j last h.shape hole live (omega arith) words links;
        }

-- one of the free numbers is taken out: the last stands in its place
abbrev pub taken : (free : List ℕ) (left at : ℕ) → List ℕ
taken free left at = set free at (get_or free (left - 1) 0)

-- where a number stood that stands in the list now
record Came (free : List ℕ) (left at p : ℕ) : Type 0 where
  was : ℕ
  inside : was < left
  other : was ≢ at
  same : get_or (taken free left at) p 0 ≡ get_or free was 0
  how : (was ≡ p) ⊎ ((p ≡ at) × (was ≡ left - 1))

-- where one stands now
record Goes (free : List ℕ) (left at r : ℕ) : Type 0 where
  now : ℕ
  inside : now < left - 1
  same : get_or (taken free left at) now 0 ≡ get_or free r 0

module _ (free : List ℕ) (left at : ℕ) (inside : at < left) (long : left ≤ length free) where
  taken_here : get_or (taken free left at) at 0 ≡ get_or free (left - 1) 0
  taken_here = get_or-set_same free at (get_or free (left - 1) 0) 0 (omega arith)

  taken_other : (p : ℕ) → p ≢ at → get_or (taken free left at) p 0 ≡ get_or free p 0
  taken_other p n = get_or-set_other free at p (get_or free (left - 1) 0) 0 n

  -- what is left was free before, at another place
  came : (p : ℕ) → p < left - 1 → Came free left at p
  came p l =
      ⊎_elim
      (λ (e : p ≡ at).
      record { was = left - 1; inside = omega arith; other = λ z. omega arith; same = ap (λ (x : ℕ). get_or (taken free left at) x 0) e ∙ taken_here; how = inr (e, refl) })
      (λ (n : p ≢ at). record { was = p; inside = omega arith; other = n; same = taken_other p n; how = inl refl })
      (cases_eq p at)

  -- and what was free before, at another place, is left
  stays : (r : ℕ) → r < left → r ≢ at → Goes free left at r
  stays r l n =
      ⊎_elim
      (λ (e : r ≡ left - 1). record { now = at; inside = omega arith; same = taken_here ∙ ap (λ (x : ℕ). get_or free x 0) (sym e) })
      (λ (o : r ≢ left - 1). record { now = r; inside = omega arith; same = taken_other r n })
      (cases_eq r (left - 1))

  pub still_differ : Differ free left → Differ (taken free left at) (left - 1)
  still_differ d p r pl rl e =
      let x = came p pl in
      let y = came r rl in
      let s : x.was ≡ y.was = d x.was y.was x.inside y.inside (sym x.same ∙ e ∙ y.same) in
      let u = x.how in
      let v = y.how in
      let a : x.was ≢ at = x.other in
      grind arith

  -- the last node was free: the same nodes are used
  pub last_free : (nodes : ℕ) → get_or free at 0 ≡ nodes - 1 → (a : ℕ) → Used nodes free left a → Used (nodes - 1) (taken free left at) (left - 1) a
  last_free nodes e a u =
      let z : a ≢ nodes - 1 = λ z. u.off at inside (e ∙ sym z) in
      record { below = omega (arith, u.below); off = λ p l g. let x = came p l in u.off x.was x.inside (sym x.same ∙ g) }

  pub free_last : (nodes : ℕ) → get_or free at 0 ≡ nodes - 1 → (a : ℕ) → Used (nodes - 1) (taken free left at) (left - 1) a → Used nodes free left a
  free_last nodes e a u =
      record {
        below = omega (arith, u.below);
        off =
            λ r l g. ⊎_elim
            (λ (z : r ≡ at). let v : a ≡ nodes - 1 = sym g ∙ ap (λ (x : ℕ). get_or free x 0) z ∙ e in omega (arith, u.below))
            (λ (n : r ≢ at). let x = stays r l n in u.off x.now x.inside (x.same ∙ g)) (cases_eq r at);
      }

  -- or it was moved to the number that is taken out
  pub last_moved :
      (nodes : ℕ) → Differ free left → get_or free at 0 < nodes - 1
      → (a : ℕ) → Moved (Used nodes free left) (get_or free at 0) (nodes - 1) a → Used (nodes - 1) (taken free left at) (left - 1) a
  last_moved nodes d low a =
      ⊎_elim
      (λ (e : a ≡ get_or free at 0).
      record { below = omega arith; off = λ p l g. let x = came p l in x.other (d x.was at x.inside inside (sym x.same ∙ g ∙ e)) })
      (λ (u : Used nodes free left a × (a ≢ nodes - 1)).
      let b = u.0.below in
      let n : a ≢ nodes - 1 = u.1 in
      record { below = omega arith; off = λ p l g. let x = came p l in u.0.off x.was x.inside (sym x.same ∙ g) })

  pub moved_last :
      (nodes : ℕ) → (a : ℕ) → Used (nodes - 1) (taken free left at) (left - 1) a → Moved (Used nodes free left) (get_or free at 0) (nodes - 1) a
  moved_last nodes a u =
      ⊎_elim (λ (e : a ≡ get_or free at 0). inl e)
      (λ (n : a ≢ get_or free at 0).
      let off : (r : ℕ) → r < left → get_or free r 0 ≢ a =
      λ r l g. ⊎_elim (λ (z : r ≡ at). n (sym g ∙ ap (λ (x : ℕ). get_or free x 0) z))
      (λ (o : r ≢ at). let x = stays r l o in u.off x.now x.inside (x.same ∙ g)) (cases_eq r at) in
      inr (record { below = omega (arith, u.below); off = off }, λ z. omega (arith, u.below)))
      (cases_eq a (get_or free at 0))

-- a copy of the 32 numbers of node last to node j
pub copied_over :
    (t t' : List ℕ) (nodes j last : ℕ) → j < last
    → ((k d : ℕ) → 32 * j ≤ k → k < 32 * j + (32 * last + 32 - 32 * last) → get_or t' k d ≡ get_or t (32 * last + (k - 32 * j)) d)
    → ((k d : ℕ) → k < 32 * j → get_or t' k d ≡ get_or t k d)
    → ((k d : ℕ) → 32 * j + (32 * last + 32 - 32 * last) ≤ k → get_or t' k d ≡ get_or t k d)
    → Copied t t' nodes j last
copied_over t t' nodes j last low here before behind =
    record {
      kept =
          λ a y al n yl. ⊎_elim (λ (g : a < j). before (32 * a + y) 0 (omega arith))
          (λ (g : j ≤ a). let h : a ≢ j = n in let k : j < a = omega arith in behind (32 * a + y) 0 (omega arith)) (cases_lt a j);
      copied =
          λ y yl. let z : 32 * last + (32 * j + y - 32 * j) ≡ 32 * last + y = omega arith in
          here (32 * j + y) 0 (omega arith) (omega arith) ∙ ap (λ (v : ℕ). get_or t v 0) z;
    }

-- one turn, where the last node was free
pub closed_free :
    {w : ℕ} {m : Hops} {t : List ℕ} (nodes : ℕ) (free : List ℕ) (left at : ℕ) → at < left → left ≤ length free → get_or free at 0 ≡ nodes - 1
    → Partly w m t nodes free left → Partly w m t (nodes - 1) (taken free left at) (left - 1)
closed_free nodes free left at inside long e h =
    record {
      differ = still_differ free left at inside long h.differ;
      loose =
          record {
            depth = h.loose.depth;
            path = h.loose.path;
            shape = same_live h.loose.shape (last_free free left at inside long nodes e) (free_last free left at inside long nodes e);
          };
    }

-- and where it was moved
pub closed_moved :
    {w : ℕ} {m : Hops} {t : List ℕ} (nodes : ℕ) (free : List ℕ) (left at : ℕ) → at < left → left ≤ length free → get_or free at 0 < nodes - 1
    → Differ free left → Loose w m t (Moved (Used nodes free left) (get_or free at 0) (nodes - 1)) → Partly w m t (nodes - 1) (taken free left at) (left - 1)
closed_moved nodes free left at inside long low d h =
    record {
      differ = still_differ free left at inside long d;
      loose =
          record {
            depth = h.depth;
            path = h.path;
            shape = same_live h.shape (last_moved free left at inside long nodes d low) (moved_last free left at inside long nodes);
          };
    }

-- only the numbers that stand first count
same_numbers :
    {w : ℕ} {m : Hops} {t : List ℕ} (nodes : ℕ) (free free' : List ℕ) (left : ℕ) → ((p : ℕ) → p < left → get_or free' p 0 ≡ get_or free p 0)
    → Partly w m t nodes free left → Partly w m t nodes free' left
same_numbers nodes free free' left same h =
    record {
      differ = λ p r pl rl e. h.differ p r pl rl (sym (same p pl) ∙ e ∙ same r rl);
      loose =
          record {
            depth = h.loose.depth;
            path = h.loose.path;
            shape =
                same_live h.loose.shape
                (λ a u. record { below = u.below; off = λ p l g. u.off p l (sym (same p l) ∙ g) })
                (λ a u. record { below = u.below; off = λ p l g. u.off p l (same p l ∙ g) });
          };
    }

-- so they may be lent alone
pub part_lent :
    {w : ℕ} {m : Hops} {t : List ℕ} (nodes : ℕ) (free : List ℕ) (left : ℕ) → left ≤ length free
    → Partly w m t nodes free left → Partly w m t nodes (take left free) (length (take left free))
part_lent nodes free left long h =
    let e : length (take left free) ≡ left = length-take-le left free long in
    rw e (same_numbers nodes free (take left free) left (λ p l. get_or-take left free p 0 l) h)

-- for one turn, after which they come back before the others
pub turn :
    {w : ℕ} {m : Hops} {t t' : List ℕ} (nodes left k : ℕ) (free part : List ℕ) → left ≡ k + 1 → left ≤ length free → length part ≡ length (take (k + 1) free)
    → (Partly w m t nodes (take (k + 1) free) (length (take (k + 1) free)) → Partly w m t' (nodes - 1) part (length (take (k + 1) free) - 1))
    → Partly w m t nodes free left → Partly w m t' (nodes - 1) (part ++ drop (k + 1) free) k
turn {w} {m} {t} {t'} nodes left k free part one long same turned h =
    let lent = part_lent nodes free (k + 1) (omega arith) (subst (λ (x : ℕ). Partly w m t nodes free x) one h) in
    let e : length (take (k + 1) free) ≡ k + 1 = length-take-le (k + 1) free (omega arith) in
    let z : length (take (k + 1) free) - 1 ≡ k = omega arith in
    same_numbers (nodes - 1) part (part ++ drop (k + 1) free) k (λ p l. get_or_append_left part (drop (k + 1) free) 0 p (omega arith)) (rw z at (turned lent))

-- no number is free: the first nodes are the trie
pub closed : {w : ℕ} {m : Hops} {t : List ℕ} (nodes : ℕ) (free : List ℕ) (left : ℕ) → left ≡ 0 → 32 * nodes ≤ length t → Partly w m t nodes free left → TrieOf w m t nodes
closed nodes free left none long h =
    record {
      depth = h.loose.depth;
      path = h.loose.path;
      fits = long;
      shape = same_live h.loose.shape (λ a u. u.below) (λ a l. record { below = l; off = λ p z. absurd (omega arith) });
    }
