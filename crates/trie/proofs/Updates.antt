-- A prefix inserted or removed, step by step: between two steps the row is right for the old or the new map with the way to the prefix, as far as some depth. For crates that change tries. Assumes nothing.
use Rattle.std.proofs.Common.{◌≡◌, ℕ, ◌+◌, ◌-◌, ◌*◌, ◌/◌, ◌^◌, ◌<◌, ◌≤◌, ◌≢◌, ◌⊎◌, sym, refl, ap, ◌∙◌, inl, inr, ⊎_elim, arith}
use Rattle.std.proofs.lemmas.Bool.{cases_eq, cases_lt}
use Rattle.prefix.specs.Map.{Hops}
use Rattle.trie.specs.Shape.{local, Deeper, Shape}
use Rattle.trie.specs.Places.{Way, Along, Covers, Apart}
use Rattle.trie.proofs.Shapes.{carry, cell_cases, same_cell, root_only}
use Rattle.trie.proofs.Changes.{but, OneMore, change, link, cut}
use Rattle.trie.proofs.Places.{way_closed, way_deeper, deeper_closed, deeper_above, changed_deeper, local_deeper, local_same, shows, covers_cases}

-- places along one step more of the way, and along one less
along_more : (m : Hops) (l q e d c : ℕ) → Along m l q e d c → Along m l q (e + 1) d c
along_more m l q e d c = ⊎_elim inl (λ (y : (d ≤ e) × Way l q d c). inr (omega arith, y.1))

along_less : (m : Hops) (l q e d c x : ℕ) → Way l q (e + 1) x → Along m l q (e + 1) d c → (d ≡ e + 1 → c ≡ x → ⊥) → Along m l q e d c
along_less m l q e d c x z a n =
    ⊎_elim inl
    (λ (y : (d ≤ e + 1) × Way l q d c).
    ⊎_elim (λ (g : d ≡ e + 1). absurd (n g (sym y.1.begins ∙ ap (λ (v : ℕ). q / 2 ^ (l - 4 * v)) g ∙ z.begins)))
    (λ (g : d ≢ e + 1). inr (omega arith, y.1)) (cases_eq d (e + 1))) a

module _ {w : ℕ} (m : Hops) (l q e : ℕ) {S G : ℕ → ℕ → ℕ} {Live : ℕ → Type 0} {depth path : ℕ → ℕ} where
  -- the root is on every way
  pub insert_start : Shape w (local m) (Deeper m) S G Live depth path → Shape w (local m) (Along m l q 0) S G Live depth path
  insert_start t =
      change t (λ i k a b. refl) t.says
      (λ i k a b z. ⊎_elim (λ y. y) (λ (y : (depth i + 1 ≤ 0) × Way l q (depth i + 1) (16 * path i + k)). absurd (omega arith)))
      (λ i p a y. inl y)

  -- the next node of the way is there
  pub insert_down :
      (i k : ℕ) → Shape w (local m) (Along m l q e) S G Live depth path → Live i → k < 16 → depth i ≡ e → Way l q (e + 1) (16 * path i + k)
      → G i k ≢ 0 → Shape w (local m) (Along m l q (e + 1)) S G Live depth path
  insert_down i k t il kl ed y ne =
      change t (λ a b al bl. refl) t.says
      (λ a b al bl z p. along_less m l q e _ _ _ y p
      (λ g h. let s = same_cell t a b i k al bl il kl (omega arith) h in ne (let o : G i k ≡ G a b = cc in o ∙ z)))
      (λ a p al. along_more m l q e _ _)

  -- it is not there, and node n of zeros is linked
  pub insert_link :
      {S' G' : ℕ → ℕ → ℕ} {Live' : ℕ → Type 0} (i k n : ℕ) → Shape w (local m) (Along m l q e) S G Live depth path → OneMore Live n Live'
      → Live i → k < 16 → depth i ≡ e → Way l q (e + 1) (16 * path i + k) → G i k ≡ 0 → l ≤ w
      → ((a b : ℕ) → Live a → b < 16 → S' a b ≡ S a b)
      → ((a b : ℕ) → Live a → b < 16 → (a ≡ i → b ≡ k → ⊥) → G' a b ≡ G a b)
      → G' i k ≡ n
      → ((b : ℕ) → b < 16 → (S' n b ≡ 0) × (G' n b ≡ 0))
      → Shape w (local m) (Along m l q (e + 1)) S' G' Live' (but depth n (depth i + 1)) (but path n (16 * path i + k))
  insert_link i k n t more il kl ed y z short words links linked zeros =
      link t i k n more record {
        live = il;
        small = kl;
        stopped = z;
        room = omega (arith, y.long);
        words = words;
        links = links;
        linked = linked;
        new_words =
            λ b bl. (zeros b bl).0
            ∙ ⊎_elim sym (λ s. absurd (none (local_deeper m _ _ b bl s))) (cases_eq (local m (depth i + 1) (16 * (16 * path i + k) + b)) 0);
        new_links = λ b bl. (zeros b bl).1;
        ends =
            λ b bl. ⊎_elim (λ p. none (deeper_closed m _ _ b bl p))
            (λ (g : (depth i + 1 + 1 ≤ e + 1) × Way l q (depth i + 1 + 1) (16 * (16 * path i + k) + b)). omega arith);
        more = λ d c. along_more m l q e d c;
        here = inr (omega arith, carry (Way l q) (ap (λ (x : ℕ). x + 1) (sym ed)) refl y);
        only = λ d c p o. along_less m l q e d c _ y p (λ g h. o (omega arith) h);
      }
    where
      none : Deeper m (depth i + 1) (16 * path i + k) → ⊥
      none p = t.stops i k il kl z (inl p)

-- the cells in which the changed prefix answers say what the new map says, and else all is as it was
pub record Renewed (m' : Hops) (l q : ℕ) (S G S' G' : ℕ → ℕ → ℕ) (Live : ℕ → Type 0) (depth path : ℕ → ℕ) : Type 0 where
  pub new : (i k : ℕ) → Live i → k < 16 → Covers l q (depth i) (16 * path i + k) → S' i k ≡ local m' (depth i) (16 * path i + k)
  pub old : (i k : ℕ) → Live i → k < 16 → (Covers l q (depth i) (16 * path i + k) → ⊥) → S' i k ≡ S i k
  pub links : (i k : ℕ) → Live i → k < 16 → G' i k ≡ G i k

module _ {w : ℕ} (m m' : Hops) (l q e : ℕ) (apart : Apart m m' l q) {S G S' G' : ℕ → ℕ → ℕ} {Live : ℕ → Type 0} {depth path : ℕ → ℕ} where
  renewed :
      {P : ℕ → ℕ → Type 0} → Shape w (local m) P S G Live depth path → Renewed m' l q S G S' G' Live depth path
      → (i k : ℕ) → Live i → k < 16 → S' i k ≡ local m' (depth i) (16 * path i + k)
  renewed t r i k il kl =
      ⊎_elim (r.new i k il kl) (λ n. r.old i k il kl n ∙ t.says i k il kl ∙ sym (local_same m m' l q _ _ apart n))
      (covers_cases l q (depth i) (16 * path i + k))

  -- the way is whole, and the words are made new: the prefix is inserted
  pub insert_words :
      Shape w (local m) (Along m l q e) S G Live depth path → Renewed m' l q S G S' G' Live depth path → m' l q ≢ 0 → 4 * e < l → l ≤ 4 * e + 4
      → Shape w (local m') (Deeper m') S' G' Live depth path
  insert_words t r n a b =
      change t r.links (renewed t r)
      (λ i k il kl z p. ⊎_elim inl (λ (y : Way l q (depth i + 1) (16 * path i + k)). inr (omega (arith, y.long), y)) (changed_deeper m m' l q _ _ apart p))
      (λ i p il. ⊎_elim (λ y. ⊎_elim (λ y'. y') (way_deeper m' l q _ _ n) (changed_deeper m' m l q _ _ (λ a b o. sym (apart a b o)) y)) (λ y. way_deeper m' l q _ _ n y.1))

  -- the words are made new, and the way is left to be cut: the beginning of a removal
  pub remove_words :
      Shape w (local m) (Deeper m) S G Live depth path → Renewed m' l q S G S' G' Live depth path → m l q ≢ 0 → 4 * e < l → l ≤ 4 * e + 4
      → Shape w (local m') (Along m' l q e) S' G' Live depth path
  remove_words t r n a b =
      change t r.links (renewed t r)
      (λ i k il kl z. ⊎_elim (λ y. ⊎_elim (λ y'. y') (way_deeper m l q _ _ n) (changed_deeper m m' l q _ _ apart y)) (λ y. way_deeper m l q _ _ n y.1))
      (λ i p il y. ⊎_elim inl (λ (y : Way l q (depth i) (path i)). inr (omega (arith, y.long), y)) (changed_deeper m' m l q _ _ (λ a b o. sym (apart a b o)) y))

-- the nodes that are left when those of the way below depth e are cut off
abbrev pub Left : (ℕ → Type 0) → (depth path : ℕ → ℕ) (l q e a : ℕ) → Type 0
Left Live depth path l q e a = Live a × (e < depth a → Way l q (depth a) (path a) → ⊥)

module _ {w : ℕ} (m : Hops) (l q e : ℕ) {S G : ℕ → ℕ → ℕ} {Live : ℕ → Type 0} {depth path : ℕ → ℕ} where
  -- a node whose cells say nothing, and name none but nodes that are not needed, is not needed
  pub not_needed :
      {P : ℕ → ℕ → Type 0} (j : ℕ) → Shape w (local m) P S G Live depth path → ((d c : ℕ) → Deeper m d c → P d c) → Live j
      → ((b : ℕ) → b < 16 → S j b ≡ 0)
      → ((b : ℕ) → b < 16 → (G j b ≡ 0) ⊎ (Deeper m (depth j + 1) (16 * path j + b) → ⊥))
      → Deeper m (depth j) (path j) → ⊥
  not_needed j t all jl words links p =
      let s = shows m _ _ p in
      ⊎_elim (λ n. n (sym (t.says j s.nibble jl s.small) ∙ words s.nibble s.small))
      (λ y. ⊎_elim (λ z. t.stops j s.nibble jl s.small z (all _ _ y)) (λ n. n y) (links s.nibble s.small))
      s.how

  -- cell (i, k) at depth e of the way stops, and with it the way below, which is not needed
  pub remove_cut :
      {S' G' : ℕ → ℕ → ℕ} (top i k : ℕ) → Shape w (local m) (Along m l q top) S G Live depth path → e ≤ top
      → Live i → k < 16 → depth i ≡ e → Way l q (e + 1) (16 * path i + k) → (Deeper m (e + 1) (16 * path i + k) → ⊥)
      → ((a b : ℕ) → Live a → b < 16 → S' a b ≡ S a b)
      → ((a b : ℕ) → Live a → b < 16 → (a ≡ i → b ≡ k → ⊥) → G' a b ≡ G a b)
      → G' i k ≡ 0
      → Shape w (local m) (Along m l q e) S' G' (Left Live depth path l q e) depth path
  remove_cut top i k t et il kl ed y none words links stopped =
      cut t record {
        root = (t.root, λ z _. omega (arith, t.top.0));
        live = λ a x. x.0;
        words = λ a b x s. words a b x.0 s;
        links =
            λ a b x s. ⊎_elim
            (λ (c : (a ≡ i) × (b ≡ k)).
            let da : depth a ≡ e = cc in
            let pa : 16 * path a + b ≡ 16 * path i + k = cc in
            inr (cc, ⊎_elim (λ p. none (carry (Deeper m) (ap (λ (v : ℕ). v + 1) da) pa p)) (λ (p : (depth a + 1 ≤ e) × Way l q (depth a + 1) (16 * path a + b)). omega arith)))
            (λ (o : a ≡ i → b ≡ k → ⊥). inl (links a b x.0 s o, λ n. ((t.goes_on a b x.0 s n).live, stay a b x.0 s x.1 o n)))
            (cell_cases a b i k);
        fewer = λ d c. ⊎_elim inl (λ (p : (d ≤ e) × Way l q d c). inr (omega arith, p.1));
        kept =
            λ a p x. ⊎_elim inl
            (λ (z : (depth a ≤ top) × Way l q (depth a) (path a)).
            ⊎_elim (λ (g : e < depth a). absurd (x.1 g z.1)) (λ (g : depth a ≤ e). inr (g, z.1)) (cases_lt e (depth a)));
      }
    where
      -- a node that is left leads to none of the way below, but by cell (i, k)
      stay :
          (a b : ℕ) → Live a → b < 16 → (e < depth a → Way l q (depth a) (path a) → ⊥) → (a ≡ i → b ≡ k → ⊥) → G a b ≢ 0
          → e < depth (G a b) → Way l q (depth (G a b)) (path (G a b)) → ⊥
      stay a b al bl off o n lt z =
          let c = t.goes_on a b al bl n in
          let on : Way l q (depth a + 1) (16 * path a + b) = carry (Way l q) c.deep c.along z in
          ⊎_elim (λ (g : e < depth a). off g (way_closed l q (depth a) (path a) b bl on))
          (λ (g : depth a ≤ e).
          let d : depth a ≡ e = omega (arith, c.deep) in
          let p : 16 * path a + b ≡ 16 * path i + k = sym on.begins ∙ ap (λ (v : ℕ). q / 2 ^ (l - 4 * (v + 1))) d ∙ y.begins in
          let s = same_cell t a b i k al bl il kl (omega arith) p in
          o s.0 s.1)
          (cases_lt e (depth a))

  -- the last node of the way is needed: nothing more is to be cut
  pub remove_done :
      (j : ℕ) → Shape w (local m) (Along m l q e) S G Live depth path → depth j ≡ e → Way l q e (path j) → Deeper m (depth j) (path j)
      → Shape w (local m) (Deeper m) S G Live depth path
  remove_done j t ed y here =
      change t (λ a b al bl. refl) t.says (λ a b al bl z p. inl p)
      (λ i p il. ⊎_elim (λ z. z)
      (λ (z : (depth i ≤ e) × Way l q (depth i) (path i)). deeper_above m l q e _ _ z.0 y.long (carry (Deeper m) ed (sym y.begins) here) z.1))

  -- as a node is whose cell says something, or names a node that is not on the way
  pub still_needed :
      (j k : ℕ) → Shape w (local m) (Along m l q e) S G Live depth path → Live j → k < 16 → depth j ≡ e → (S j k ≢ 0) ⊎ (G j k ≢ 0) → Deeper m (depth j) (path j)
  still_needed j k t jl kl ed =
      ⊎_elim (λ n. local_deeper m _ _ k kl (λ z. n (t.says j k jl kl ∙ z)))
      (λ (n : G j k ≢ 0).
      let c = t.goes_on j k jl kl n in
      ⊎_elim (λ p. deeper_closed m _ _ k kl (carry (Deeper m) c.deep c.along p))
      (λ (z : (depth (G j k) ≤ e) × Way l q (depth (G j k)) (path (G j k))). absurd (omega (arith, c.deep)))
      (t.used (G j k) (omega arith) c.live))

  -- or only the root is left of the way
  pub remove_all : Shape w (local m) (Along m l q 0) S G Live depth path → Shape w (local m) (Deeper m) S G Live depth path
  remove_all t =
      change t (λ a b al bl. refl) t.says (λ a b al bl z p. inl p)
      (λ i p il. ⊎_elim (λ z. z)
      (λ (z : (depth i ≤ 0) × Way l q (depth i) (path i)). absurd (let y = root_only t i il (omega arith) in omega arith)))
