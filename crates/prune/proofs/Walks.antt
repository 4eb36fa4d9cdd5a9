-- A walk down the way to a prefix, by the nibbles of its key: for the proof of `go_down`. Assumes nothing.
use Rattle.std.proofs.Common.{◌≡◌, ℕ, ◌+◌, ◌-◌, ◌*◌, ◌/◌, ◌%◌, ◌^◌, ◌<◌, ◌≤◌, ◌≢◌, ◌⊎◌, List, length, get_or, set, sym, refl, ap, ◌∙◌, subst, inl, inr, ⊎_elim, arith}
use Rattle.std.proofs.lemmas.Nat.{shr-shr, shr_below, mod-pow-add, mod_low, mod_below, pow_pos}
use Rattle.std.proofs.lemmas.List.{get_or-set_same, get_or-set_other}
use Rattle.std.proofs.lemmas.Bool.{cases_eq}
use Rattle.prefix.specs.Routes.{first}
use Rattle.prefix.specs.Map.{Hops}
use Rattle.prefix.proofs.Nibbles.{rest_of, first_low, fits_width}
use Rattle.trie.specs.Nodes.{said, goes}
use Rattle.trie.specs.Shape.{local, Deeper, Child, Held}
use Rattle.trie.specs.Places.{Way, step, Along}
use Rattle.trie.proofs.Shapes.{carry}
use Rattle.trie.proofs.Places.{way_root, way_on, shows}
use Rattle.prune.specs.Walk.{Stays, Bare, Chain, Stepped, Walked, Rest}
use Rattle.prune.specs.Free.{WithWay}

-- behind one nibble, and behind one more
pub rest_start : (w x : ℕ) → Rest w 1 x (rest_of w x)
rest_start w x j h =
    let e : 4 * 1 + j - 4 ≡ j = omega arith in
    let f = first_low w (4 * 1 + j) x (omega arith) h in
    sym (rw e at f)

mod_mod : (n j : ℕ) → n % 2 ^ (4 + j) % 2 ^ j ≡ n % 2 ^ j
mod_mod n j = ap (λ (x : ℕ). x % 2 ^ j) (mod-pow-add n 4 j) ∙ mod_low (n / 2 ^ j % 2 ^ 4) j (n % 2 ^ j) (mod_below n (2 ^ j) (pow_pos j))

pub rest_more : (w d x y : ℕ) → Rest w d x y → Rest w (d + 1) x (rest_of w y)
rest_more w d x y r j h =
    let e : 4 + j - 4 ≡ j = omega arith in
    let f : first w (4 + j) y % 2 ^ (4 + j - 4) ≡ first w (4 + j - 4) (rest_of w y) = first_low w (4 + j) y (omega arith) (omega arith) in
    let g : first w (4 + j) y % 2 ^ j ≡ first w j (rest_of w y) = rw e at f in
    let s : 4 * d + (4 + j) ≡ 4 * (d + 1) + j = omega arith in
    sym g ∙ ap (λ (n : ℕ). n % 2 ^ j) (r (4 + j) (omega arith)) ∙ mod_mod (first w (4 * d + (4 + j)) x) j
    ∙ ap (λ (n : ℕ). first w n x % 2 ^ j) s

-- a step of the way, by the key itself
step_is : (w l d x : ℕ) → 4 * (d + 1) ≤ l → l ≤ w → step l (first w l x) d ≡ first w (4 * d + 4) x % 16
step_is w l d x h k =
    let s : w - l + (l - 4 * (d + 1)) ≡ w - (4 * d + 4) = omega arith in
    ap (λ (n : ℕ). n % 16) (shr-shr x (w - l) (l - 4 * (d + 1)) ∙ ap (λ (n : ℕ). x / 2 ^ n) s)

-- the highest nibble of what is left is the next step, as at the root
pub next_step : (w l d x y k : ℕ) → Rest w d x y → 4 * (d + 1) ≤ l → l ≤ w → k ≡ y / 2 ^ (w - 4) → k ≡ step l (first w l x) d
next_step w l d x y k r h s e = e ∙ r 4 (omega arith) ∙ sym (step_is w l d x h s)

pub root_step : (w l x k : ℕ) → 4 ≤ l → l ≤ w → k ≡ x / 2 ^ (w - 4) → k < 16 → k ≡ step l (first w l x) 0
root_step w l x k h s e small =
    let f : k % 16 ≡ k = omega arith in
    sym f ∙ ap (λ (n : ℕ). n % 16) e ∙ sym (step_is w l 0 x h s)

pub prefix_fits : (w l x : ℕ) → 4 ≤ w → l ≤ w → x / 2 ^ (w - 4) < 16 → first w l x < 2 ^ l
prefix_fits w l x h s small =
    let e : w ≡ l + (w - l) = omega arith in
    let f : x < 2 ^ w = fits_width w x h small in
    shr_below x l (w - l) (subst (λ (n : ℕ). x < 2 ^ n) e f)

-- the way goes on by its next step
way_next : (l q d c k : ℕ) → Way l q d c → 4 * (d + 1) < l → k ≡ step l q d → Way l q (d + 1) (16 * c + k)
way_next l q d c k way long is = rw is (way_on l q d c way long)

module _ {w : ℕ} {m : Hops} {l q top nodes : ℕ} {t : List ℕ} (h : Held w (local m) (Along m l q top) t nodes) (cur d k : ℕ)
    (here : cur < nodes) (deep : h.depth cur ≡ d) (way : Way l q d (h.path cur)) (long : 4 * (d + 1) < l) (is : k ≡ step l q d)
    (some : get_or t (32 * cur + (2 * k + 1)) 0 ≢ 0) where
  small : k < 16
  small = omega arith

  child : Child (λ i. i < nodes) h.depth h.path cur k (get_or t (32 * cur + (2 * k + 1)) 0)
  unfolding goes
  child = h.shape.goes_on cur k here small some

  leads : Way l q (d + 1) (16 * h.path cur + k)
  leads = way_next l q d (h.path cur) k way long is

  down : Way l q (d + 1) (h.path (get_or t (32 * cur + (2 * k + 1)) 0))
  down = carry (Way l q) refl (sym child.along) leads

  -- the node stays, and a new chain begins beneath it
  pub chain_new :
      (free : List ℕ) → 0 < length free → (d ≡ 0) ⊎ Stays t cur (32 * cur + (2 * k + 1))
      → Chain h (d + 1) (get_or t (32 * cur + (2 * k + 1)) 0) (32 * cur + (2 * k + 1)) (set free 0 (get_or t (32 * cur + (2 * k + 1)) 0)) 1
  chain_new free room stays =
      record {
        deep = child.deep ∙ ap (λ (x : ℕ). x + 1) deep;
        way = down;
        parent = cur;
        nibble = k;
        above = d;
        sum = refl;
        is = refl;
        live = here;
        small = small;
        high = deep;
        leads = leads;
        stays = stays;
        inside = λ p z. rw (at p z) child.live;
        deeper = λ p z. rw (at p z) (child.deep ∙ omega (arith, deep));
        along = λ p z. rw (at p z) (carry (Way l q) (omega arith) refl down);
        needs = λ y. carry (Deeper m) refl (sym child.along) y;
      }
    where
      at : (p : ℕ) → p < 1 → get_or (set free 0 (get_or t (32 * cur + (2 * k + 1)) 0)) p 0 ≡ get_or t (32 * cur + (2 * k + 1)) 0
      at p z =
          let e : p ≡ 0 = omega arith in
          rw e (get_or-set_same free 0 (get_or t (32 * cur + (2 * k + 1)) 0) 0 room)

  -- the node has nothing beside the way: it is needed only if the next is
  through : Bare t cur (32 * cur + (2 * k + 1)) → Deeper m d (h.path cur) → Deeper m (d + 1) (h.path (get_or t (32 * cur + (2 * k + 1)) 0))
  unfolding said goes
  through bare y =
      let s = shows m d (h.path cur) y in
      let low : s.nibble < 16 = s.small in
      ⊎_elim
      (λ n. absurd (n (sym (subst (λ (x : ℕ). said t cur s.nibble ≡ local m x (16 * h.path cur + s.nibble)) deep (h.shape.says cur s.nibble here low)) ∙ bare (2 * s.nibble) (omega arith) (λ e. omega arith))))
      (λ (z : Deeper m (d + 1) (16 * h.path cur + s.nibble)).
      ⊎_elim
      (λ (e : s.nibble ≡ k). carry (Deeper m) refl (ap (λ (x : ℕ). 16 * h.path cur + x) e ∙ sym child.along) z)
      (λ (o : s.nibble ≢ k).
      absurd (h.shape.stops cur s.nibble here low (bare (2 * s.nibble + 1) (omega arith) (λ e. omega arith))
      (inl (carry (Deeper m) (ap (λ (x : ℕ). x + 1) (sym deep)) refl z))))
      (cases_eq s.nibble k))
      s.how

  -- and the chain goes on
  pub chain_on :
      (place : ℕ) (free : List ℕ) (left : ℕ) → left < length free → Bare t cur (32 * cur + (2 * k + 1)) → Chain h d cur place free left
      → Chain h (d + 1) (get_or t (32 * cur + (2 * k + 1)) 0) place (set free left (get_or t (32 * cur + (2 * k + 1)) 0)) (left + 1)
  chain_on place free left room bare c =
      record {
        deep = child.deep ∙ ap (λ (x : ℕ). x + 1) deep;
        way = down;
        parent = c.parent;
        nibble = c.nibble;
        above = c.above;
        sum = omega (arith, c.sum);
        is = c.is;
        live = c.live;
        small = c.small;
        high = c.high;
        leads = c.leads;
        stays = c.stays;
        inside = λ p z. both p z (λ x. x < nodes) (λ o. c.inside p o) (λ e. child.live);
        deeper = λ p z. both p z (λ x. h.depth x ≡ c.above + 1 + p) (λ o. c.deeper p o) (λ (e : p ≡ left). child.deep ∙ omega (arith, deep, c.sum));
        along = λ p z. both p z (λ x. Way l q (c.above + 1 + p) (h.path x)) (λ o. c.along p o) (λ (e : p ≡ left). carry (Way l q) (omega (arith, c.sum)) refl down);
        needs = λ y. through bare (c.needs y);
      }
    where
      both : (p : ℕ) → p < left + 1 → (R : ℕ → Type 0) → (p < left → R (get_or free p 0)) → (p ≡ left → R (get_or t (32 * cur + (2 * k + 1)) 0)) → R (get_or (set free left (get_or t (32 * cur + (2 * k + 1)) 0)) p 0)
      both p z R old new =
          ⊎_elim
          (λ (e : p ≡ left). rw (e, get_or-set_same free left (get_or t (32 * cur + (2 * k + 1)) 0) 0 room) (new e))
          (λ (n : p ≢ left). rw (get_or-set_other free left p (get_or t (32 * cur + (2 * k + 1)) 0) 0 n) (old (omega arith)))
          (cases_eq p left)

-- the way goes on as far as it is in the row
pub way_there :
    {w : ℕ} {m : Hops} {l q top nodes : ℕ} {t : List ℕ} (h : Held w (local m) (Along m l q top) t nodes) (cur d k : ℕ)
    → cur < nodes → h.depth cur ≡ d → Way l q d (h.path cur) → 4 * (d + 1) < l → d + 1 ≤ top → k ≡ step l q d
    → (get_or t (32 * cur + (2 * k + 1)) 0 ≢ 0) × (get_or t (32 * cur + (2 * k + 1)) 0 < nodes)
unfolding goes
way_there {l = l} {q = q} {t = t} h cur d k here deep way long far is =
    let some : get_or t (32 * cur + (2 * k + 1)) 0 ≢ 0 =
    λ z. h.shape.stops cur k here (omega arith) z (inr (omega arith, carry (Way l q) (ap (λ (x : ℕ). x + 1) (sym deep)) refl (way_next l q d (h.path cur) k way long is))) in
    (some, (h.shape.goes_on cur k here (omega arith) some).live)

-- the root is on the way
pub root_way : {w : ℕ} {m : Hops} {l q top nodes : ℕ} {t : List ℕ} (h : Held w (local m) (Along m l q top) t nodes) → 0 < l → q < 2 ^ l → Way l q 0 (h.path 0)
root_way {l = l} {q = q} h pos fits = carry (Way l q) refl (sym h.shape.top.1) (way_root l q pos fits)

-- a walk before its first step, or behind some: at depth d, with y left of the key
pub record Going (w l x nodes : ℕ) (t : List ℕ) (d y cur place : ℕ) (free : List ℕ) (left : ℕ) : Type 0 where
  pub here : cur < nodes
  pub few : left ≤ d
  pub stands : ((d ≡ 0) × (y ≡ x) × (cur ≡ 0)) ⊎ (Rest w d x y × Walked w l x nodes t d cur place free left)

-- behind some it has a chain
pub going_there :
    {w l x nodes : ℕ} {t : List ℕ} {d y cur place : ℕ} {free : List ℕ} {left : ℕ} → Going w l x nodes t d y cur place free left → 0 < d
    → Walked w l x nodes t d cur place free left
going_there {w} {l} {x} {nodes} {t} {d} {y} {cur} {place} {free} {left} g some =
    ⊎_elim (λ (e : (d ≡ 0) × (y ≡ x) × (cur ≡ 0)). absurd (omega (arith, e.0)))
    (λ (v : Rest w d x y × Walked w l x nodes t d cur place free left). v.1) g.stands

module _ {w l x nodes : ℕ} {t : List ℕ} {d y cur place : ℕ} {free : List ℕ} {left : ℕ} (g : Going w l x nodes t d y cur place free left) (k : ℕ)
    (wide : 4 ≤ w) (short : l ≤ w) (long : 4 * (d + 1) < l) (is : k ≡ y / 2 ^ (w - 4)) (small : k < 16) where
  on_way : (m : Hops) (h : WithWay w l x m t nodes) → (h.depth cur ≡ d) × Way l (first w l x) d (h.path cur)
  on_way m h =
      ⊎_elim
      (λ (e : (d ≡ 0) × (y ≡ x) × (cur ≡ 0)).
      let low : y / 2 ^ (w - 4) < 16 = subst (λ (n : ℕ). n < 16) is small in
      let fits : first w l x < 2 ^ l = prefix_fits w l x wide short (subst (λ (n : ℕ). n / 2 ^ (w - 4) < 16) e.1 low) in
      (ap h.depth e.2 ∙ h.shape.top.0 ∙ sym e.0, carry (Way l (first w l x)) (sym e.0) (ap h.path (sym e.2)) (root_way h (omega arith) fits)))
      (λ (v : Rest w d x y × Walked w l x nodes t d cur place free left). let c = v.1.chain m h in (c.deep, c.way)) g.stands

  is_step : k ≡ step l (first w l x) d
  is_step =
      ⊎_elim
      (λ (e : (d ≡ 0) × (y ≡ x) × (cur ≡ 0)).
      let s : k ≡ x / 2 ^ (w - 4) = is ∙ ap (λ (n : ℕ). n / 2 ^ (w - 4)) e.1 in rw e.0 (root_step w l x k (omega arith) short s small))
      (λ (v : Rest w d x y × Walked w l x nodes t d cur place free left). next_step w l d x y k v.0 (omega arith) short is) g.stands

  rest_on : Rest w (d + 1) x (rest_of w y)
  rest_on =
      ⊎_elim (λ (e : (d ≡ 0) × (y ≡ x) × (cur ≡ 0)). rw (e.0, e.1) (rest_start w x))
      (λ (v : Rest w d x y × Walked w l x nodes t d cur place free left). rest_more w d x y v.0) g.stands

  -- where nothing would be free the node is the root
  anew : (left ≡ 0) ⊎ Stays t cur (32 * cur + (2 * k + 1)) → (d ≡ 0) ⊎ Stays t cur (32 * cur + (2 * k + 1))
  anew =
      ⊎_elim
      (λ (z : left ≡ 0).
      ⊎_elim (λ (e : (d ≡ 0) × (y ≡ x) × (cur ≡ 0)). inl e.0)
      (λ (v : Rest w d x y × Walked w l x nodes t d cur place free left). let s = v.1.some in absurd (omega arith)) g.stands)
      (λ (s : Stays t cur (32 * cur + (2 * k + 1))). inr s)

  -- a step leads on
  walked_on :
      (cur' place' : ℕ) (free' : List ℕ) (left' : ℕ)
      → Stepped t nodes cur (32 * cur + (2 * k + 1)) place free left cur' place' free' left' → Walked w l x nodes t (d + 1) cur' place' free' left'
  walked_on cur' place' free' left' s =
      let e = s.next in
      let below = s.below in
      let room = s.room in
      let here = g.here in
      ⊎_elim
      (λ (o : ((left ≡ 0) ⊎ Stays t cur (32 * cur + (2 * k + 1))) × (place' ≡ 32 * cur + (2 * k + 1)) × (left' ≡ 1) × (free' ≡ set free 0 cur')).
      let e₁ = o.1 in
      let e₂ = o.2 in
      let e₃ = o.3 in
      rw (e₁, e₂, e₃, e)
      record {
        here = below;
        low = omega arith;
        some = omega arith;
        few = omega arith;
        deep = long;
        chain = λ m h. let c = on_way m h in chain_new h cur d k here c.0 c.1 long is_step s.some free (omega arith) (anew o.0);
      })
      (λ (o : (0 < left) × Bare t cur (32 * cur + (2 * k + 1)) × (place' ≡ place) × (left' ≡ left + 1) × (free' ≡ set free left cur')).
      let few = g.few in
      let v = going_there g (omega (arith, o.0)) in
      let e₁ = o.2 in
      let e₂ = o.3 in
      let e₃ = o.4 in
      rw (e₁, e₂, e₃, e)
      record {
        here = below;
        low = v.low;
        some = omega arith;
        few = omega arith;
        deep = long;
        chain = λ m h. let c = v.chain m h in chain_on h cur d k here c.deep c.way long is_step s.some place free left room o.1 c;
      })
      s.how

  pub going_on :
      (cur' place' : ℕ) (free' : List ℕ) (left' : ℕ)
      → Stepped t nodes cur (32 * cur + (2 * k + 1)) place free left cur' place' free' left' → Going w l x nodes t (d + 1) (rest_of w y) cur' place' free' left'
  going_on cur' place' free' left' s =
      let v = walked_on cur' place' free' left' s in
      record { here = v.here; few = v.few; stands = inr (rest_on, v) }

  -- and in a right row none breaks off
  pub going_never :
      (get_or t (32 * cur + (2 * k + 1)) 0 ≡ 0) ⊎ (nodes ≤ get_or t (32 * cur + (2 * k + 1)) 0) → (m : Hops) → WithWay w l x m t nodes → ⊥
  going_never off m h =
      let c = on_way m h in
      let z = way_there h cur d k g.here c.0 c.1 long (omega arith) is_step in
      ⊎_elim z.0 (λ (o : nodes ≤ get_or t (32 * cur + (2 * k + 1)) 0). omega (arith, z.1)) off
