-- The nodes at the end of the way cut off by one write: for the proof of `cut_off`. Assumes nothing.
use Rattle.std.proofs.Common.{◌≡◌, ℕ, ◌+◌, ◌-◌, ◌*◌, ◌/◌, ◌%◌, ◌^◌, ◌<◌, ◌≤◌, ◌≢◌, ◌⊎◌, List, get_or, set, sym, refl, ap, ◌∙◌, subst, inl, inr, ⊎_elim, arith}
use Rattle.std.proofs.lemmas.List.{get_or-set_other}
use Rattle.std.proofs.lemmas.Bool.{cases_eq}
use Rattle.prefix.specs.Map.{Hops}
use Rattle.trie.specs.Nodes.{said, goes}
use Rattle.trie.specs.Shape.{local, Deeper, Shape, Held}
use Rattle.trie.specs.Places.{Way, Along}
use Rattle.trie.proofs.Shapes.{carry}
use Rattle.trie.proofs.Changes.{same_live}
use Rattle.trie.proofs.Places.{way_closed, way_deeper}
use Rattle.trie.proofs.Rows.{blank_node, link_here, link_else, link_words}
use Rattle.trie.proofs.Updates.{Left, not_needed, remove_cut, remove_done, still_needed, remove_all}
use Rattle.prune.specs.Free.{Used, Differ, Partly}
use Rattle.prune.specs.Walk.{Stays, Chain}

-- one of the 32 numbers is a cell's word or its link
either_number : (t : List ℕ) (a y : ℕ) → get_or t (32 * a + y) 0 ≢ 0 → (said t a (y / 2) ≢ 0) ⊎ (goes t a (y / 2) ≢ 0)
unfolding said goes
either_number t a y n =
    ⊎_elim
    (λ (z : y % 2 ≡ 0). inl (λ o. n (let v : 32 * a + y ≡ 32 * a + 2 * (y / 2) = omega arith in ap (λ (u : ℕ). get_or t u 0) v ∙ o)))
    (λ (z : y % 2 ≢ 0). inr (λ o. n (let v : 32 * a + y ≡ 32 * a + (2 * (y / 2) + 1) = omega arith in ap (λ (u : ℕ). get_or t u 0) v ∙ o)))
    (cases_eq (y % 2) 0)

-- nothing is free
pub none_free : {w : ℕ} {m : Hops} {t : List ℕ} {nodes : ℕ} {depth path : ℕ → ℕ} (free : List ℕ) (left : ℕ) → left ≡ 0
    → Shape w (local m) (Deeper m) (said t) (goes t) (λ i. i < nodes) depth path → Partly w m t nodes free left
none_free {depth = depth} {path = path} free left none s =
    record {
      differ = λ p r z. absurd (omega arith);
      loose = record { depth = depth; path = path; shape = same_live s (λ a l. record { below = l; off = λ p z. absurd (omega arith) }) (λ a u. u.below) };
    }

module _ {w : ℕ} {m : Hops} {l q top nodes : ℕ} {t : List ℕ} (h : Held w (local m) (Along m l q top) t nodes) {cur place : ℕ} {free : List ℕ} {left : ℕ}
    (c : Chain h top cur place free left) (here : cur < nodes) where
  -- the last node is not empty
  pub kept_way : (place' : ℕ) (free' : List ℕ) (left' : ℕ) → left' ≡ 0 → Stays t cur place' → Partly w m t nodes free' left'
  kept_way place' free' left' none s =
      none_free free' left' none
      (remove_done m l q top cur h.shape c.deep c.way (still_needed m l q top cur (s.number / 2) h.shape here (omega (arith, s.small)) c.deep (either_number t cur s.number s.some)))

  module _ (some : 0 < left) (short : l ≤ 4 * (top + 1)) (empty : (y : ℕ) → y < 32 → get_or t (32 * cur + y) 0 ≡ 0) where
    -- so the map needs it no more
    pub needless : (m l q ≢ 0) ⊎ Deeper m top (q / 2 ^ (l - 4 * top)) → ⊥
    needless y =
        let z : Deeper m top (h.path cur) = ⊎_elim (λ n. way_deeper m l q top (h.path cur) n c.way) (λ p. carry (Deeper m) refl c.way.begins p) y in
        not_needed m l q top cur h.shape (λ d p z. inl z) here (λ b s. (blank_node t cur empty b s).0) (λ b s. inl (blank_node t cur empty b s).1) (carry (Deeper m) (sym c.deep) refl z)

    none : Deeper m (c.above + 1) (16 * h.path c.parent + c.nibble) → ⊥
    none y =
        not_needed m l q top cur h.shape (λ d p z. inl z) here (λ b s. (blank_node t cur empty b s).0) (λ b s. inl (blank_node t cur empty b s).1)
        (carry (Deeper m) (sym c.deep) refl (c.needs y))

    row : List ℕ
    row = set t (32 * c.parent + (2 * c.nibble + 1)) 0

    cut : Shape w (local m) (Along m l q c.above) (said row) (goes row) (Left (λ i. i < nodes) h.depth h.path l q c.above) h.depth h.path
    unfolding row
    cut =
        remove_cut m l q c.above top c.parent c.nibble h.shape (omega (arith, c.sum)) c.live c.small c.high c.leads none
        (λ a b al bl. link_words t c.parent c.nibble 0 c.small a b)
        (λ a b al bl o. link_else t c.parent c.nibble 0 c.small a b bl o)
        (link_here t c.parent c.nibble 0 c.small (omega (arith, c.live, c.small, h.fits)))

    -- a node of the way below is one of the list
    listed : (a : ℕ) → a < nodes → c.above < h.depth a → Way l q (h.depth a) (h.path a) → ((p : ℕ) → p < left → get_or free p 0 ≢ a) → ⊥
    listed a al deep way off =
        let p : ℕ = h.depth a - (c.above + 1) in
        let pl : p < left = omega (arith, c.sum, way.long) in
        let e : h.depth (get_or free p 0) ≡ h.depth a = omega (arith, c.deeper p pl) in
        let d : c.above + 1 + p ≡ h.depth a = omega arith in
        off p pl (h.shape.alone (get_or free p 0) a (c.inside p pl) al e (sym (c.along p pl).begins ∙ ap (λ (x : ℕ). q / 2 ^ (l - 4 * x)) d ∙ way.begins))

    onward : (a : ℕ) → Left (λ i. i < nodes) h.depth h.path l q c.above a → Used nodes free left a
    onward a x =
        record {
          below = x.0;
          off =
              λ p pl e.
              let d : h.depth a ≡ c.above + 1 + p = ap h.depth (sym e) ∙ c.deeper p pl in
              x.1 (omega arith) (carry (Way l q) (sym d) (ap h.path e) (c.along p pl));
        }

    back : (a : ℕ) → Used nodes free left a → Left (λ i. i < nodes) h.depth h.path l q c.above a
    back a u = (u.below, λ deep way. listed a u.below deep way u.off)

    differ : Differ free left
    differ p r pl rl e = omega (arith, c.deeper p pl, c.deeper r rl, ap h.depth e)

    done : Shape w (local m) (Deeper m) (said row) (goes row) (Left (λ i. i < nodes) h.depth h.path l q c.above) h.depth h.path
    unfolding row
    done =
        ⊎_elim
        (λ (e : c.above ≡ 0).
        remove_all m l q 0
        (subst (λ (x : ℕ). Shape w (local m) (Along m l q x) (said row) (goes row) (Left (λ i. i < nodes) h.depth h.path l q c.above) h.depth h.path) e cut))
        (λ (s : Stays t c.parent place).
        let live : Left (λ i. i < nodes) h.depth h.path l q c.above c.parent = (c.live, λ z _. omega (arith, c.high)) in
        let same : get_or row (32 * c.parent + s.number) 0 ≡ get_or t (32 * c.parent + s.number) 0 =
        get_or-set_other t (32 * c.parent + (2 * c.nibble + 1)) (32 * c.parent + s.number) 0 0 (λ e. s.other (e ∙ sym c.is)) in
        remove_done m l q c.above c.parent cut c.high (way_closed l q c.above (h.path c.parent) c.nibble c.small c.leads)
        (still_needed m l q c.above c.parent (s.number / 2) cut live (omega (arith, s.small)) c.high
        (either_number row c.parent s.number (λ z. s.some (sym same ∙ z)))))
        c.stays

    -- the cell at the place stops: the nodes of the list are free
    pub cut_way : Partly w m (set t place 0) nodes free left
    unfolding row
    cut_way =
        record {
          differ = differ;
          loose = record { depth = h.depth; path = h.path; shape = subst (λ (x : ℕ). Shape w (local m) (Deeper m) (said (set t x 0)) (goes (set t x 0)) (Used nodes free left) h.depth h.path) (sym c.is) (same_live done onward back) };
        }
