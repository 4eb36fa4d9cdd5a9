-- Changes that keep a trie's shape: other words or places, a new node, nodes left out, nodes renamed. For crates that change tries. Assumes nothing.
use Rattle.std.proofs.Common.{◌≡◌, ℕ, ◌+◌, ◌*◌, ◌^◌, ◌<◌, ◌≤◌, cond, eqb, ◌≢◌, ◌⊎◌, sym, refl, ap, ◌∙◌, subst, inl, inr, ⊎_elim, add-one, arith}
use Rattle.std.proofs.lemmas.Bool.{cases_eq, cases_lt, eq-eqb, ne_eqb}
use Rattle.std.proofs.lemmas.Bool.Decides.{nat_tests}
use Rattle.trie.specs.Shape.{Child, Shape}
use Rattle.trie.proofs.Shapes.{carry, cell_cases, same_cell}

-- a function with one value changed
abbrev pub but : (ℕ → ℕ) → (at v x : ℕ) → ℕ
but f at v x = cond (eqb x at) v (f x)

pub but_same : (f : ℕ → ℕ) (at v : ℕ) → but f at v at ≡ v
but_same f at v = rw (eq-eqb at at refl)

pub but_other : (f : ℕ → ℕ) (at v x : ℕ) → x ≢ at → but f at v x ≡ f x
but_other f at v x n = rw (ne_eqb x at n)

-- the live nodes with one more
pub record OneMore (Live : ℕ → Type 0) (n : ℕ) (Live' : ℕ → Type 0) : Type 0 where
  pub fresh : Live n → ⊥
  pub new : Live' n
  pub old : (a : ℕ) → Live a → Live' a
  pub split : (a : ℕ) → Live' a → Live a ⊎ (a ≡ n)

-- as where the nodes are the first so many
pub next_node : (nodes : ℕ) → OneMore (λ i. i < nodes) nodes (λ i. i < nodes + 1)
next_node nodes =
    record {
      fresh = λ l. omega arith;
      new = omega arith;
      old = λ a l. omega arith;
      split = λ a l. ⊎_elim (λ (o : a < nodes). inl o) (λ (o : nodes ≤ a). inr (omega arith)) (cases_lt a nodes);
    }

-- cell (i, k) of a live node named no node, and now names node n, which names none; P' has just the place of n beside those of P
pub record Link (w : ℕ) (V : ℕ → ℕ → ℕ) (P P' : ℕ → ℕ → Type 0) (S G S' G' : ℕ → ℕ → ℕ) (Live : ℕ → Type 0) (depth path : ℕ → ℕ) (i k n : ℕ) : Type 0 where
  pub live : Live i
  pub small : k < 16
  pub stopped : G i k ≡ 0
  pub room : 4 * (depth i + 1) < w
  pub words : (a b : ℕ) → Live a → b < 16 → S' a b ≡ S a b
  pub links : (a b : ℕ) → Live a → b < 16 → (a ≡ i → b ≡ k → ⊥) → G' a b ≡ G a b
  pub linked : G' i k ≡ n
  pub new_words : (b : ℕ) → b < 16 → S' n b ≡ V (depth i + 1) (16 * (16 * path i + k) + b)
  pub new_links : (b : ℕ) → b < 16 → G' n b ≡ 0
  pub ends : (b : ℕ) → b < 16 → P' (depth i + 1 + 1) (16 * (16 * path i + k) + b) → ⊥
  pub more : (d c : ℕ) → P d c → P' d c
  pub here : P' (depth i + 1) (16 * path i + k)
  pub only : (d c : ℕ) → P' d c → (d ≡ depth i + 1 → c ≡ 16 * path i + k → ⊥) → P d c

-- some nodes are left out: each cell of the others stays and leads to one of them, or names none where none is needed any more
pub record Cut (P P' : ℕ → ℕ → Type 0) (S G S' G' : ℕ → ℕ → ℕ) (Live Live' : ℕ → Type 0) (depth path : ℕ → ℕ) : Type 0 where
  pub root : Live' 0
  pub live : (a : ℕ) → Live' a → Live a
  pub words : (a b : ℕ) → Live' a → b < 16 → S' a b ≡ S a b
  pub links : (a b : ℕ) → Live' a → b < 16 → ((G' a b ≡ G a b) × (G a b ≢ 0 → Live' (G a b))) ⊎ ((G' a b ≡ 0) × (P' (depth a + 1) (16 * path a + b) → ⊥))
  pub fewer : (d c : ℕ) → P' d c → P d c
  pub kept : (a : ℕ) → 0 < a → Live' a → P (depth a) (path a) → P' (depth a) (path a)

-- the nodes have other numbers: what is node a now was node was a
pub record Renamed (was : ℕ → ℕ) (S G S' G' : ℕ → ℕ → ℕ) (Live Live' : ℕ → Type 0) : Type 0 where
  pub root : Live' 0
  pub top : was 0 ≡ 0
  pub live : (a : ℕ) → Live' a → Live (was a)
  pub one : (a b : ℕ) → Live' a → Live' b → was a ≡ was b → a ≡ b
  pub words : (a b : ℕ) → Live' a → b < 16 → S' a b ≡ S (was a) b
  pub none : (a b : ℕ) → Live' a → b < 16 → G' a b ≡ 0 → G (was a) b ≡ 0
  pub some : (a b : ℕ) → Live' a → b < 16 → G' a b ≢ 0 → Live' (G' a b) × (was (G' a b) ≡ G (was a) b)

module _ {w : ℕ} {V : ℕ → ℕ → ℕ} {P : ℕ → ℕ → Type 0} {S G : ℕ → ℕ → ℕ} {Live : ℕ → Type 0} {depth path : ℕ → ℕ} (t : Shape w V P S G Live depth path) where
  -- the links stay: other words, or other places
  pub change :
      {V' : ℕ → ℕ → ℕ} {P' : ℕ → ℕ → Type 0} {S' G' : ℕ → ℕ → ℕ}
      → ((i k : ℕ) → Live i → k < 16 → G' i k ≡ G i k)
      → ((i k : ℕ) → Live i → k < 16 → S' i k ≡ V' (depth i) (16 * path i + k))
      → ((i k : ℕ) → Live i → k < 16 → G i k ≡ 0 → P' (depth i + 1) (16 * path i + k) → P (depth i + 1) (16 * path i + k))
      → ((i : ℕ) → 0 < i → Live i → P (depth i) (path i) → P' (depth i) (path i))
      → Shape w V' P' S' G' Live depth path
  change same_g says less more =
      record {
        root = t.root;
        top = t.top;
        high = t.high;
        narrow = t.narrow;
        says = says;
        stops = λ i k l h z p. let y = sym (same_g i k l h) ∙ z in t.stops i k l h y (less i k l h y p);
        goes_on = λ i k l h ne. let y = same_g i k l h in subst (λ (x : ℕ). Child Live depth path i k x) (sym y) (t.goes_on i k l h (λ z. ne (y ∙ z)));
        alone = t.alone;
        used = λ i p l. more i p l (t.used i p l);
      }

  -- cells of live nodes as they were
  pub unchanged :
      {S' G' : ℕ → ℕ → ℕ}
      → ((i k : ℕ) → Live i → k < 16 → S' i k ≡ S i k)
      → ((i k : ℕ) → Live i → k < 16 → G' i k ≡ G i k)
      → Shape w V P S' G' Live depth path
  unchanged sameS same_g = change same_g (λ i k l h. sameS i k l h ∙ t.says i k l h) (λ i k l h z p. p) (λ i p l y. y)

  -- a new node
  pub link :
      {P' : ℕ → ℕ → Type 0} {S' G' : ℕ → ℕ → ℕ} {Live' : ℕ → Type 0} (i k n : ℕ)
      → OneMore Live n Live'
      → Link w V P P' S G S' G' Live depth path i k n
      → Shape w V P' S' G' Live' (but depth n (depth i + 1)) (but path n (16 * path i + k))
  link {P'} {S'} {G'} {Live'} i k n m h =
      record {
        root = m.old 0 t.root;
        top = (rw (old_d 0 t.root) t.top.0, rw (old_p 0 t.root) t.top.1);
        high = λ a l. split a l (λ x. 4 * D x < w) (λ o. rw (old_d a o) (t.high a o)) (rw new_d h.room);
        narrow =
            λ a l. split a l (λ x. Q x < 16 ^ D x) (λ o. rw (old_d a o, old_p a o) (t.narrow a o))
            (rw (new_d, new_p, add-one (depth i)) (omega (arith, h.small, t.narrow i h.live)));
        says =
            λ a b l s. split a l (λ x. S' x b ≡ V (D x) (16 * Q x + b))
            (λ o. rw (old_d a o, old_p a o) (h.words a b o s ∙ t.says a b o s)) (rw (new_d, new_p) (h.new_words b s));
        stops =
            λ a b l s. split a l (λ x. G' x b ≡ 0 → P' (D x + 1) (16 * Q x + b) → ⊥)
            (λ o. rw (old_d a o, old_p a o) (old_stop a b o s)) (rw (new_d, new_p) (λ z. h.ends b s));
        goes_on =
            λ a b l s. split a l (λ x. G' x b ≢ 0 → Child Live' (but depth n (depth i + 1)) (but path n (16 * path i + k)) x b (G' x b))
            (λ o. old_child a b o s) (λ ne. absurd (ne (h.new_links b s)));
        alone =
            λ a b la lb. split a la (λ x. D x ≡ D b → Q x ≡ Q b → x ≡ b)
            (λ o. split b lb (λ y. D a ≡ D y → Q a ≡ Q y → a ≡ y)
            (λ o'. rw (old_d a o, old_p a o, old_d b o', old_p b o') (t.alone a b o o'))
            (rw (old_d a o, old_p a o, new_d, new_p) (λ ed ep. absurd (free a o ed ep))))
            (split b lb (λ y. D n ≡ D y → Q n ≡ Q y → n ≡ y)
            (λ o'. rw (new_d, new_p, old_d b o', old_p b o') (λ ed ep. absurd (free b o' (sym ed) (sym ep))))
            (λ ed ep. refl));
        used = λ a p l. split a l (λ x. P' (D x) (Q x)) (λ o. rw (old_d a o, old_p a o) (h.more _ _ (t.used a p o))) (rw (new_d, new_p) h.here);
      }
    where
      D : ℕ → ℕ
      D x = but depth n (depth i + 1) x

      Q : ℕ → ℕ
      Q x = but path n (16 * path i + k) x

      other : (a : ℕ) → Live a → a ≢ n
      other a l e = m.fresh (subst Live e l)

      old_d : (a : ℕ) → Live a → but depth n (depth i + 1) a ≡ depth a
      old_d a l = but_other depth n (depth i + 1) a (other a l)

      old_p : (a : ℕ) → Live a → but path n (16 * path i + k) a ≡ path a
      old_p a l = but_other path n (16 * path i + k) a (other a l)

      new_d : but depth n (depth i + 1) n ≡ depth i + 1
      new_d = but_same depth n (depth i + 1)

      new_p : but path n (16 * path i + k) n ≡ 16 * path i + k
      new_p = but_same path n (16 * path i + k)

      split : (a : ℕ) → Live' a → (R : ℕ → Type 0) → (Live a → R a) → R n → R a
      split a l R f g = ⊎_elim f (λ (e : a ≡ n). subst R (sym e) g) (m.split a l)

      old_stop : (a b : ℕ) → Live a → b < 16 → G' a b ≡ 0 → P' (depth a + 1) (16 * path a + b) → ⊥
      old_stop a b o s z p =
          let ne : a ≡ i → b ≡ k → ⊥ = λ ea eb. let y : n ≡ 0 = cc h.linked in other 0 t.root (sym y) in
          t.stops a b o s (sym (h.links a b o s ne) ∙ z)
          (h.only _ _ p (λ ed ec. let c = same_cell t a b i k o s h.live h.small ed ec in ne c.0 c.1))

      old_child : (a b : ℕ) → Live a → b < 16 → G' a b ≢ 0 → Child Live' (but depth n (depth i + 1)) (but path n (16 * path i + k)) a b (G' a b)
      old_child a b o s ne =
          ⊎_elim
          (λ (e : (a ≡ i) × (b ≡ k)).
          let y : G' a b ≡ n = cc h.linked in
          record { live = rw y m.new; deep = rw (y, new_d, old_d a o) (cc); along = rw (y, new_p, old_p a o) (cc) })
          (λ (x : a ≡ i → b ≡ k → ⊥).
          let y = h.links a b o s x in
          let c = t.goes_on a b o s (λ z. ne (y ∙ z)) in
          record { live = rw y (m.old _ c.live); deep = rw (y, old_d (G a b) c.live, old_d a o) c.deep; along = rw (y, old_p (G a b) c.live, old_p a o) c.along })
          (cell_cases a b i k)

      free : (a : ℕ) → Live a → depth a ≡ depth i + 1 → path a ≡ 16 * path i + k → ⊥
      free a o ed ep =
          let pos : a ≢ 0 = λ e. let y : depth 0 ≡ depth i + 1 = cc in omega (arith, t.top.0) in
          t.stops i k h.live h.small h.stopped (carry P ed ep (t.used a (omega arith) o))

  -- nodes left out
  pub cut : {P' : ℕ → ℕ → Type 0} {S' G' : ℕ → ℕ → ℕ} {Live' : ℕ → Type 0} → Cut P P' S G S' G' Live Live' depth path → Shape w V P' S' G' Live' depth path
  cut {P'} {S'} {G'} {Live'} h =
      record {
        root = h.root;
        top = t.top;
        high = λ a l. t.high a (h.live a l);
        narrow = λ a l. t.narrow a (h.live a l);
        says = λ a b l s. h.words a b l s ∙ t.says a b (h.live a l) s;
        stops =
            λ a b l s z p. ⊎_elim (λ (x : (G' a b ≡ G a b) × (G a b ≢ 0 → Live' (G a b))). t.stops a b (h.live a l) s (sym x.0 ∙ z) (h.fewer _ _ p))
            (λ (x : (G' a b ≡ 0) × (P' (depth a + 1) (16 * path a + b) → ⊥)). x.1 p) (h.links a b l s);
        goes_on =
            λ a b l s ne. ⊎_elim (λ (x : (G' a b ≡ G a b) × (G a b ≢ 0 → Live' (G a b))).
            let some : G a b ≢ 0 = λ z. ne (x.0 ∙ z) in
            let c = t.goes_on a b (h.live a l) s some in
            rw x.0 record { live = x.1 some; deep = c.deep; along = c.along })
            (λ (x : (G' a b ≡ 0) × (P' (depth a + 1) (16 * path a + b) → ⊥)). absurd (ne x.0)) (h.links a b l s);
        alone = λ a b la lb. t.alone a b (h.live a la) (h.live b lb);
        used = λ a p l. h.kept a p l (t.used a p (h.live a l));
      }

  -- the same nodes are live, in other words
  pub same_live : {Live' : ℕ → Type 0} → ((a : ℕ) → Live a → Live' a) → ((a : ℕ) → Live' a → Live a) → Shape w V P S G Live' depth path
  same_live onward back =
      cut record {
        root = onward 0 t.root;
        live = back;
        words = λ a b l s. refl;
        links = λ a b l s. inl (refl, λ n. onward _ (t.goes_on a b (back a l) s n).live);
        fewer = λ d c p. p;
        kept = λ a p l y. y;
      }

  -- nodes renamed
  pub rename : {S' G' : ℕ → ℕ → ℕ} {Live' : ℕ → Type 0} (was : ℕ → ℕ) → Renamed was S G S' G' Live Live' → Shape w V P S' G' Live' (λ a. depth (was a)) (λ a. path (was a))
  rename {S'} {G'} {Live'} was h =
      record {
        root = h.root;
        top = rw h.top t.top;
        high = λ a l. t.high (was a) (h.live a l);
        narrow = λ a l. t.narrow (was a) (h.live a l);
        says = λ a b l s. h.words a b l s ∙ t.says (was a) b (h.live a l) s;
        stops = λ a b l s z. t.stops (was a) b (h.live a l) s (h.none a b l s z);
        goes_on =
            λ a b l s ne.
            let x = h.some a b l s ne in
            let c = t.goes_on (was a) b (h.live a l) s (λ z. not_root (G' a b) x.0 ne (x.1 ∙ z)) in
            record { live = x.0; deep = ap depth x.1 ∙ c.deep; along = ap path x.1 ∙ c.along };
        alone = λ a b la lb ed ep. h.one a b la lb (t.alone (was a) (was b) (h.live a la) (h.live b lb) ed ep);
        used = λ a p l. t.used (was a) (let n : was a ≢ 0 = not_root a l (λ z. omega arith) in omega arith) (h.live a l);
      }
    where
      not_root : (a : ℕ) → Live' a → a ≢ 0 → was a ≢ 0
      not_root a l n z = n (h.one a 0 l h.root (z ∙ sym h.top))

-- node last is moved to the free number j: which node was it that is a now, and where is what was x
abbrev pub from : (j last a : ℕ) → ℕ
from j last a = cond (eqb a j) last a

abbrev pub to : (j last x : ℕ) → ℕ
to j last x = cond (eqb x last) j x

-- the nodes that are live then
abbrev pub Moved : (ℕ → Type 0) → (j last a : ℕ) → Type 0
Moved Live j last a = (a ≡ j) ⊎ (Live a × (a ≢ last))

-- each cell of the moved node goes with it, and the cell that named it names j
pub move :
    {w : ℕ} {V : ℕ → ℕ → ℕ} {P : ℕ → ℕ → Type 0} {S G S' G' : ℕ → ℕ → ℕ} {Live : ℕ → Type 0} {depth path : ℕ → ℕ} (j last : ℕ)
    → Shape w V P S G Live depth path → (Live j → ⊥) → Live last → 0 < last
    → ((a b : ℕ) → Moved Live j last a → b < 16 → S' a b ≡ S (from j last a) b)
    → ((a b : ℕ) → Moved Live j last a → b < 16 → G' a b ≡ to j last (G (from j last a) b))
    → Shape w V P S' G' (Moved Live j last) (λ a. depth (from j last a)) (λ a. path (from j last a))
move {S = S} {G = G} {S' = S'} {G' = G'} {Live = Live} j last t free l pos sameS same_g =
    rename t (from j last) record {
      root = inr (t.root, λ e. omega arith);
      top = same 0 t.root;
      live = live;
      one = λ a b x y e. sym (back a x) ∙ ap (to j last) e ∙ back b y;
      words = sameS;
      none = λ a b x s z. none (G (from j last a) b) (sym (same_g a b x s) ∙ z);
      some =
          λ a b x s n.
          let e = same_g a b x s in
          let y : ℕ = G (from j last a) b in
          let c = t.goes_on (from j last a) b (live a x) s (λ z. n (e ∙ grind (arith, nat_tests))) in
          subst (λ (v : ℕ). Moved Live j last v × (from j last v ≡ y)) (sym e) (some y c.live);
    }
  where
    other : (a : ℕ) → Live a → a ≢ j
    other a x e = free (subst Live e x)

    same : (a : ℕ) → Live a → from j last a ≡ a
    same a x = rw (ne_eqb a j (other a x))

    live : (a : ℕ) → Moved Live j last a → Live (from j last a)
    live a = ⊎_elim (λ (e : a ≡ j). rw (eq-eqb a j e) l) (λ (x : Live a × (a ≢ last)). rw (same a x.0) x.0)

    back : (a : ℕ) → Moved Live j last a → to j last (from j last a) ≡ a
    back a =
        ⊎_elim (λ (e : a ≡ j). rw (eq-eqb a j e, eq-eqb last last refl) (sym e))
        (λ (x : Live a × (a ≢ last)). rw (same a x.0, ne_eqb a last x.1))

    none : (x : ℕ) → to j last x ≡ 0 → x ≡ 0
    none x z = let n = other 0 t.root in grind (arith, nat_tests)

    some : (x : ℕ) → Live x → Moved Live j last (to j last x) × (from j last (to j last x) ≡ x)
    some x y =
        ⊎_elim (λ (e : x ≡ last). rw (eq-eqb x last e) (inl refl, rw (eq-eqb j j refl) (sym e)))
        (λ (n : x ≢ last). rw (ne_eqb x last n) (inr (y, n), same x y)) (cases_eq x last)
