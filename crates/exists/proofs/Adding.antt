-- One prefix added to a trie whose row is as long as its nodes: the way is made, node by node, and the words are written. For the proof that every good list has a trie. Assumes nothing.
use Rattle.std.proofs.Common.{◌≡◌, ℕ, zero, suc, ◌+◌, ◌-◌, ◌*◌, ◌/◌, ◌%◌, ◌^◌, ◌<◌, ◌≤◌, cond, eqb, ◌≢◌, List, ◌++◌, map, length, get_or, set, replicate, sym, refl, ◌∙◌, subst, ⊎_elim, add-one, arith}
use Rattle.std.specs.List.{range_with_len}
use Rattle.std.proofs.lemmas.List.FromFn.{length-map-range_with_len, get_or-map-range_with_len}
use Rattle.std.proofs.lemmas.List.{length-append, length-replicate, length-set, get_or-replicate, get_or_append_left, get_or-append_right}
use Rattle.std.proofs.lemmas.Bool.{cases_eq, eq-eqb, ne_eqb}
use Rattle.prefix.specs.Map.{Hops}
use Rattle.trie.specs.Nodes.{said, goes}
use Rattle.trie.specs.Shape.{local, TrieOf}
use Rattle.trie.specs.Places.{Way, step, Along, Apart, Walk}
use Rattle.trie.proofs.Changes.{change}
use Rattle.trie.proofs.Places.{local_same, changed_deeper}
use Rattle.trie.proofs.Updates.{insert_words}
use Rattle.grow.specs.Ways.{Linked, depth_of}
use Rattle.grow.proofs.Walks.{linked, walk_start, walk_down, walk_link}

-- a map has a trie, in a row as long as its nodes
pub record Served (w : ℕ) (m : Hops) : Type 0 where
  pub row : List ℕ
  pub nodes : ℕ
  pub whole : length row ≡ 32 * nodes
  pub trie : TrieOf w m row nodes

-- a trie with the way to a prefix as far as depth e, in such a row
record Reached (w : ℕ) (m : Hops) (l q e : ℕ) : Type 0 where
  row : List ℕ
  nodes : ℕ
  node : ℕ
  whole : length row ≡ 32 * nodes
  walk : Walk w (local m) (Along m l q e) l q e row nodes node

-- a row with a node of zeros behind it
abbrev longer : List ℕ → List ℕ
longer t = t ++ replicate 32 0

length_longer : (t : List ℕ) (nodes : ℕ) → length t ≡ 32 * nodes → length (longer t) ≡ 32 * (nodes + 1)
length_longer t nodes e = length-append t (replicate 32 0) ∙ omega (arith, length-replicate {A = ℕ} 32 0)

-- and that node named at a place of the row
link_longer : (t : List ℕ) (nodes place : ℕ) → length t ≡ 32 * nodes → place < 32 * nodes → Linked t (set (longer t) place nodes) nodes place
link_longer t nodes place e h =
    let long = length_longer t nodes e in
    linked t (longer t) (longer t) nodes place (omega arith) (omega arith)
    (λ y l. get_or-append_right t (replicate 32 0) (32 * nodes) (32 * nodes + y) 0 e (omega arith) ∙ get_or-replicate 32 (32 * nodes + y - 32 * nodes) 0 0 (omega arith))
    (λ x l. get_or_append_left t (replicate 32 0) 0 x (omega arith))
    (λ x l. refl)

module _ {w : ℕ} {m : Hops} (l q : ℕ) (short : l ≤ w) where
  -- the way goes on by one node, which is there or is made
  reach_more : (e : ℕ) → 4 * (e + 1) < l → Reached w m l q e → Reached w m l q (e + 1)
  reach_more e long r =
      ⊎_elim
      (λ (stop : goes r.row r.node (step l q e) ≡ 0).
      let f = link_longer r.row r.nodes (32 * r.node + (2 * step l q e + 1)) r.whole (omega (arith, r.walk.here)) in
      record {
        row = set (longer r.row) (32 * r.node + (2 * step l q e + 1)) r.nodes;
        nodes = r.nodes + 1;
        node = r.nodes;
        whole = length-set _ _ _ ∙ length_longer r.row r.nodes r.whole;
        walk = walk_link l q e long r.walk stop short f;
      })
      (λ (go : goes r.row r.node (step l q e) ≢ 0).
      record { row = r.row; nodes = r.nodes; node = goes r.row r.node (step l q e); whole = r.whole; walk = walk_down l q e long r.walk go })
      (cases_eq (goes r.row r.node (step l q e)) 0)

  -- and so as far as the prefix goes
  reach : (e : ℕ) → 4 * e < l → q < 2 ^ l → Served w m → Reached w m l q e
  reach zero long low s = record { row = s.row; nodes = s.nodes; node = 0; whole = s.whole; walk = walk_start l q s.trie (omega arith) low }
  reach (suc e) long low s = subst (Reached w m l q) (add-one e) (reach_more e (omega arith) (reach e (omega arith) low s))

-- a row of so many nodes with the links of another, in which each word is what the map says
abbrev rewords : Hops → (depth path : ℕ → ℕ) → List ℕ → ℕ → ℕ
rewords m depth path t x = cond (eqb (x % 2) 0) (local m (depth (x / 32)) (16 * path (x / 32) + x % 32 / 2)) (get_or t x 0)

abbrev reworded : Hops → (depth path : ℕ → ℕ) → List ℕ → (nodes : ℕ) → List ℕ
reworded m depth path t nodes = map (rewords m depth path t) (range_with_len 0 (32 * nodes))

module _ (m : Hops) (depth path : ℕ → ℕ) (t : List ℕ) (nodes i k : ℕ) (live : i < nodes) (small : k < 16) where
  new_words : said (reworded m depth path t nodes) i k ≡ local m (depth i) (16 * path i + k)
  unfolding said
  new_words =
      let a : (32 * i + 2 * k) / 32 ≡ i = omega arith in
      let b : (32 * i + 2 * k) % 32 / 2 ≡ k = omega arith in
      get_or-map-range_with_len (rewords m depth path t) 0 (32 * nodes) (32 * i + 2 * k) (32 * i + 2 * k) 0 (omega arith) (omega arith)
      ∙ rw (eq-eqb ((32 * i + 2 * k) % 2) 0 (omega arith), a, b)

  old_links : goes (reworded m depth path t nodes) i k ≡ goes t i k
  unfolding goes
  old_links =
      get_or-map-range_with_len (rewords m depth path t) 0 (32 * nodes) (32 * i + (2 * k + 1)) (32 * i + (2 * k + 1)) 0 (omega arith) (omega arith)
      ∙ rw (ne_eqb ((32 * i + (2 * k + 1)) % 2) 0 (λ e. omega arith))

-- a prefix of some bits added: the way is made, and the words are written
pub add_long : {w : ℕ} {m : Hops} (m' : Hops) (l q : ℕ) → Apart m m' l q → m' l q ≢ 0 → 0 < l → l ≤ w → q < 2 ^ l → Served w m → Served w m'
add_long {w} {m} m' l q apart there some short low s =
    let r = reach l q short (depth_of l) (omega arith) low s in
    let h = r.walk.held in
    let long : length (reworded m' h.depth h.path r.row r.nodes) ≡ 32 * r.nodes = length-map-range_with_len _ 0 (32 * r.nodes) in
    record {
      row = reworded m' h.depth h.path r.row r.nodes;
      nodes = r.nodes;
      whole = long;
      trie =
          record {
            depth = h.depth;
            path = h.path;
            fits = omega arith;
            shape =
                insert_words m m' l q (depth_of l) apart h.shape
                record {
                  new = λ i k il kl c. new_words m' h.depth h.path r.row r.nodes i k il kl;
                  old =
                      λ i k il kl n. new_words m' h.depth h.path r.row r.nodes i k il kl
                      ∙ local_same m m' l q _ _ apart n ∙ sym (h.shape.says i k il kl);
                  links = λ i k il kl. old_links m' h.depth h.path r.row r.nodes i k il kl;
                } there (omega arith) (omega arith);
          };
    }

-- the prefix of no bits added: no cell says it, so the row stays
pub add_none : {w : ℕ} {m : Hops} (m' : Hops) (q : ℕ) → Apart m m' 0 q → Served w m → Served w m'
add_none {w} {m} m' q apart s =
    let h = s.trie in
    record {
      row = s.row;
      nodes = s.nodes;
      whole = s.whole;
      trie =
          record {
            depth = h.depth;
            path = h.path;
            fits = h.fits;
            shape =
                change h.shape (λ i k il kl. refl)
                (λ i k il kl. h.shape.says i k il kl ∙ sym (local_same m m' 0 q _ _ apart (λ c. omega (arith, c.long))))
                (λ i k il kl z p. ⊎_elim (λ y. y) (λ (y : Way 0 q (h.depth i + 1) (16 * h.path i + k)). absurd (omega (arith, y.long))) (changed_deeper m m' 0 q _ _ apart p))
                (λ i p il y. ⊎_elim (λ z. z) (λ (z : Way 0 q (h.depth i) (h.path i)). absurd (omega (arith, z.long)))
                (changed_deeper m' m 0 q _ _ (λ a b o. sym (apart a b o)) y));
          };
    }
