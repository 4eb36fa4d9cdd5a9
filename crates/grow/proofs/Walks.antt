-- A row while the way to a prefix is made, step by step. For the proof of `make_way`. Assumes nothing.
use Rattle.std.proofs.Common.{◌≡◌, ℕ, ◌+◌, ◌*◌, ◌^◌, ◌<◌, ◌≤◌, ◌≢◌, List, length, get_or, set, IfSome, Some, None, Option, sym, refl, ap, ◌∙◌, arith}
use Rattle.std.proofs.lemmas.List.{length-set, get_or-set_same, get_or-set_other}
use Rattle.prefix.specs.Map.{Hops}
use Rattle.trie.specs.Nodes.{said, goes}
use Rattle.trie.specs.Shape.{local, Deeper, Shape, Held, TrieOf}
use Rattle.trie.specs.Places.{Way, step, Along, Walk}
use Rattle.trie.proofs.Shapes.{carry}
use Rattle.trie.proofs.Changes.{but, but_same, next_node}
use Rattle.trie.proofs.Places.{way_root, way_on, way_deeper}
use Rattle.trie.proofs.Updates.{insert_start, insert_down, insert_link}
use Rattle.grow.specs.Ways.{Linked}

-- what holds of a place that is reached, and so what follows from it
pub onward : {X : Type 0} {P Q : X → Type 0} (r : Option X) → ((p : X) → P p → Q p) → IfSome r P → IfSome r Q
onward None f h = h
onward (Some p) f h = f p h

-- the writes that link a node: of the row t its numbers are made 0, which makes a; a hint behind it makes b; and a cell is written
pub linked :
    (t a b : List ℕ) (count place : ℕ) → place < length b → 32 * (count + 1) ≤ length b
    → ((y : ℕ) → y < 32 → get_or a (32 * count + y) 0 ≡ 0) → ((x : ℕ) → x < 32 * count → get_or a x 0 ≡ get_or t x 0)
    → ((x : ℕ) → x < 32 * (count + 1) → get_or b x 0 ≡ get_or a x 0)
    → Linked t (set b place count) count place
linked t a b count place in_row long blank before hint =
    record {
      long = simp length-set long;
      named = get_or-set_same b place count 0 in_row;
      kept = λ x l n. get_or-set_other b place x count 0 n ∙ hint x (omega arith) ∙ before x l;
      blank = λ y l n. get_or-set_other b place (32 * count + y) count 0 n ∙ hint (32 * count + y) (omega arith) ∙ blank y l;
    }

-- a way begins at the root
pub root_walk :
    {w : ℕ} {V : ℕ → ℕ → ℕ} {P : ℕ → ℕ → Type 0} {t : List ℕ} {count : ℕ} (l q : ℕ) → Held w V P t count → 0 < l → q < 2 ^ l → Walk w V P l q 0 t count 0
root_walk l q h some small =
    record { held = h; here = h.shape.root; deep = h.shape.top.0; way = carry (Way l q) refl (sym h.shape.top.1) (way_root l q some small) }

pub walk_start :
    {w : ℕ} {m : Hops} {t : List ℕ} {count : ℕ} (l q : ℕ) → TrieOf w m t count → 0 < l → q < 2 ^ l
    → Walk w (local m) (Along m l q 0) l q 0 t count 0
walk_start {m = m} l q h = root_walk l q (record { depth = h.depth; path = h.path; fits = h.fits; shape = insert_start m l q 0 h.shape })

-- from a node of the way to the next, where the cell names it
below :
    {w : ℕ} {V : ℕ → ℕ → ℕ} {P P' : ℕ → ℕ → Type 0} {t : List ℕ} {count node : ℕ} (l q d : ℕ) → 4 * (d + 1) < l → (h : Walk w V P l q d t count node)
    → Shape w V P' (said t) (goes t) (λ i. i < count) h.held.depth h.held.path → goes t node (step l q d) ≢ 0
    → Walk w V P' l q (d + 1) t count (goes t node (step l q d))
below l q d long h y n =
    let c = y.goes_on _ (step l q d) h.here (omega arith) n in
    record {
      held = record { depth = h.held.depth; path = h.held.path; fits = h.held.fits; shape = y };
      here = c.live;
      deep = c.deep ∙ ap (λ (x : ℕ). x + 1) h.deep;
      way = carry (Way l q) refl (sym c.along) (way_on l q d _ h.way long);
    }

module _ {w : ℕ} {m : Hops} {t : List ℕ} {count node : ℕ} (l q d : ℕ) (long : 4 * (d + 1) < l) (h : Walk w (local m) (Along m l q d) l q d t count node) where
  small : step l q d < 16
  small = omega arith

  on : Way l q (d + 1) (16 * h.held.path node + step l q d)
  on = way_on l q d _ h.way long

  -- the next node is there
  pub walk_down : goes t node (step l q d) ≢ 0 → Walk w (local m) (Along m l q (d + 1)) l q (d + 1) t count (goes t node (step l q d))
  walk_down n = below l q d long h (insert_down m l q d node (step l q d) h.held.shape h.here small h.deep on n) n

  -- it is made
  pub walk_link :
      {t' : List ℕ} → goes t node (step l q d) ≡ 0 → l ≤ w → Linked t t' count (32 * node + (2 * step l q d + 1))
      → Walk w (local m) (Along m l q (d + 1)) l q (d + 1) t' (count + 1) count
  unfolding said goes
  walk_link {t'} none short f =
      record {
        held =
            record {
              depth = but h.held.depth count (h.held.depth node + 1);
              path = but h.held.path count (16 * h.held.path node + step l q d);
              fits = f.long;
              shape =
                  insert_link m l q d node (step l q d) count h.held.shape (next_node count) h.here small h.deep on none short
                  (λ a b al bl. f.kept (32 * a + 2 * b) (omega arith) (λ e. omega arith))
                  (λ a b al bl n. f.kept (32 * a + (2 * b + 1)) (omega arith) (λ e. let s : a ≡ node = omega arith in n s (omega arith)))
                  f.named
                  (λ b bl. (f.blank (2 * b) (omega arith) (λ e. omega (arith, h.here)), f.blank (2 * b + 1) (omega arith) (λ e. omega (arith, h.here))));
            };
        here = omega arith;
        deep = but_same h.held.depth count (h.held.depth node + 1) ∙ ap (λ (x : ℕ). x + 1) h.deep;
        way = carry (Way l q) refl (sym (but_same h.held.path count (16 * h.held.path node + step l q d))) on;
      }

  -- the two steps of the code, with k the nibble
  module _ (k : ℕ) (e : k ≡ step l q d) where
    pub step_named :
        get_or t (32 * node + (2 * k + 1)) 0 ≢ 0 → Walk w (local m) (Along m l q (d + 1)) l q (d + 1) t count (get_or t (32 * node + (2 * k + 1)) 0)
    unfolding goes
    step_named = rw e walk_down

    pub step_linked :
        {t' : List ℕ} {c n : ℕ} → get_or t (32 * node + (2 * k + 1)) 0 ≡ 0 → l ≤ w
        → (c ≡ count + 1) × (n ≡ count) × Linked t t' count (32 * node + (2 * k + 1))
        → Walk w (local m) (Along m l q (d + 1)) l q (d + 1) t' c n
    unfolding goes
    step_linked {t'} none short x =
        rw (x.0, x.1) (walk_link (rw e at none) short (let f = x.2 in rw e at f))

-- a map that has the prefix needs its way: the next node is there
pub step_found :
    {w : ℕ} {V : ℕ → ℕ → ℕ} {m : Hops} {t : List ℕ} {count node : ℕ} (l q d k : ℕ) → 4 * (d + 1) < l → Walk w V (Deeper m) l q d t count node → m l q ≢ 0
    → k ≡ step l q d
    → (get_or t (32 * node + (2 * k + 1)) 0 ≢ 0) × Walk w V (Deeper m) l q (d + 1) t count (get_or t (32 * node + (2 * k + 1)) 0)
unfolding goes
step_found {m = m} {t = t} {node = node} l q d k long h n e =
    let some : goes t node (step l q d) ≢ 0 =
    λ z. h.held.shape.stops node (step l q d) h.here (omega arith) z
    (way_deeper m l q _ _ n (carry (Way l q) (ap (λ (x : ℕ). x + 1) (sym h.deep)) refl (way_on l q d _ h.way long))) in
    rw e (some, below l q d long h h.held.shape some)
