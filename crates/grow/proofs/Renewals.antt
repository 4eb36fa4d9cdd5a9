-- The words of a prefix's cells are written: the last step of an insertion, and the first of a removal. For crates that put and take away prefixes. Assumes nothing.
use Rattle.std.proofs.Common.{◌≡◌, ℕ, ◌+◌, ◌*◌, ◌<◌, ◌≤◌, true, leb, ◌≢◌, List, length, sym, ap, ◌∙◌, arith}
use Rattle.std.proofs.lemmas.Bool.{le-leb}
use Rattle.prefix.specs.Map.{Hops}
use Rattle.trie.specs.Nodes.{said, goes}
use Rattle.trie.specs.Shape.{local, Deeper, Held, TrieOf}
use Rattle.trie.specs.Places.{Along, Covers, Apart, Walk}
use Rattle.trie.proofs.Shapes.{carry}
use Rattle.trie.proofs.Places.{covers_way}
use Rattle.trie.proofs.Updates.{Renewed, insert_words, remove_words}
use Rattle.grow.specs.Cells.{path_of, Cells, Says, Written}

-- the words of the covered cells of the last node of the way are written: so all cells that the prefix covers say what the new map says
renewal :
    {w : ℕ} {V : ℕ → ℕ → ℕ} {P : ℕ → ℕ → Type 0} (m' : Hops) {l q e count node mask : ℕ} {t t' words : List ℕ} (h : Walk w V P l q e t count node)
    → l ≤ 4 * e + 4 → Cells l q e mask → Says m' l q e mask words → Written node mask words t t'
    → Renewed m' l q (said t) (goes t) (said t') (goes t') (λ i. i < count) h.held.depth h.held.path
unfolding said goes
renewal m' {l} {q} {e} {node = node} h short cells says r =
    record {
      new =
          λ i k il kl c.
          let d : h.held.depth i ≡ e = omega (arith, c.long, c.short, h.way.long) in
          let p : h.held.path i ≡ path_of l q e = sym (covers_way l q _ _ k kl c).begins ∙ ap (path_of l q) d in
          let same = h.held.shape.alone i node il h.here (d ∙ sym h.deep) (p ∙ h.way.begins) in
          let b = (cells k kl).1 (carry (Covers l q) d (ap (λ (x : ℕ). 16 * x + k) p) c) in
          cc (r.new k kl b, says k kl b);
      old =
          λ i k il kl n. r.old (32 * i + 2 * k) (λ j jl b at.
          let s : i ≡ node = omega arith in
          let s' : k ≡ j = omega arith in
          let c = (cells j jl).0 b in
          n (carry (Covers l q) (sym (ap h.held.depth s ∙ h.deep)) (cc h.way.begins) c));
      links = λ i k il kl. r.old (32 * i + (2 * k + 1)) (λ j jl b at. omega arith);
    }

-- the node of a walk lies in the row, so its words can be written
pub node_fits :
    {w : ℕ} {V : ℕ → ℕ → ℕ} {P : ℕ → ℕ → Type 0} {l q e count node : ℕ} {t : List ℕ} → Walk w V P l q e t count node → leb (32 * (node + 1)) (length t) ≡ true
node_fits h = le-leb _ _ (omega (arith, h.here, h.held.fits))

-- a prefix is put: the way is made, and the words are written
pub put_done :
    {w : ℕ} {m : Hops} (m' : Hops) {l q e count node mask : ℕ} {t t' words : List ℕ} → Walk w (local m) (Along m l q e) l q e t count node
    → Apart m m' l q → m' l q ≢ 0 → l ≤ 4 * e + 4 → Cells l q e mask → Says m' l q e mask words → Written node mask words t t'
    → TrieOf w m' t' count
put_done {m = m} m' {l} {q} {e} h apart n short cells says r =
    record {
      depth = h.held.depth;
      path = h.held.path;
      fits = omega (arith, h.held.fits, r.long);
      shape = insert_words m m' l q e apart h.held.shape (renewal m' h short cells says r) n h.way.long short;
    }

-- a prefix is to be taken away: the words are written, and the way is left to be cut, from its last node up
pub walk_renewed :
    {w : ℕ} {m : Hops} (m' : Hops) {l q e count node mask : ℕ} {t t' words : List ℕ} → Walk w (local m) (Deeper m) l q e t count node
    → Apart m m' l q → m l q ≢ 0 → l ≤ 4 * e + 4 → Cells l q e mask → Says m' l q e mask words → Written node mask words t t'
    → Walk w (local m') (Along m' l q e) l q e t' count node
walk_renewed {m = m} m' {l} {q} {e} h apart n short cells says r =
    record {
      held =
          record {
            depth = h.held.depth;
            path = h.held.path;
            fits = omega (arith, h.held.fits, r.long);
            shape = remove_words m m' l q e apart h.held.shape (renewal m' h short cells says r) n h.way.long short;
          };
      here = h.here;
      deep = h.deep;
      way = h.way;
    }

pub words_renewed :
    {w : ℕ} {m : Hops} (m' : Hops) {l q e count node mask : ℕ} {t t' words : List ℕ} → Walk w (local m) (Deeper m) l q e t count node
    → Apart m m' l q → m l q ≢ 0 → l ≤ 4 * e + 4 → Cells l q e mask → Says m' l q e mask words → Written node mask words t t'
    → Held w (local m') (Along m' l q e) t' count
words_renewed m' h apart n short cells says r = (walk_renewed m' h apart n short cells says r).held
