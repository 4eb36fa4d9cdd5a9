-- What follows from a trie's shape: cells apart, a node for each place, a name for each node. For the theorems, and for crates that change tries. Assumes nothing.
use Rattle.std.proofs.Common.{◌≡◌, ℕ, zero, suc, ◌+◌, ◌*◌, ◌/◌, ◌%◌, ◌^◌, ◌<◌, ◌≢◌, ◌⊎◌, sym, refl, ap, ◌∙◌, subst, arith}
use Rattle.std.proofs.lemmas.Bool.{cases_eq}
use Rattle.trie.specs.Shape.{Child, Shape, Named}

-- what holds of a place holds of the same place under another name
pub carry : (P : ℕ → ℕ → Type 0) {d d' c c' : ℕ} → d ≡ d' → c ≡ c' → P d c → P d' c'
carry P {d} {d'} {c} {c'} e f p = subst (λ (x : ℕ). P x c') e (subst (λ (y : ℕ). P d y) f p)

-- with a place all those above it belong too
abbrev pub Closed : (ℕ → ℕ → Type 0) → Type 0
Closed P = (d c k : ℕ) → k < 16 → P (d + 1) (16 * c + k) → P d c

-- the cell (a, b) is the cell (i, k), or another
pub cell_cases : (a b i k : ℕ) → ((a ≡ i) × (b ≡ k)) ⊎ (a ≡ i → b ≡ k → ⊥)
cell_cases a b i k = grind (arith, cases_eq a i, cases_eq b k)

-- a node hangs at a place
pub record Found (Live : ℕ → Type 0) (depth path : ℕ → ℕ) (d c : ℕ) : Type 0 where
  pub node : ℕ
  pub live : Live node
  pub deep : depth node ≡ d
  pub along : path node ≡ c

module _ {w : ℕ} {V : ℕ → ℕ → ℕ} {P : ℕ → ℕ → Type 0} {S G : ℕ → ℕ → ℕ} {Live : ℕ → Type 0} {depth path : ℕ → ℕ} (t : Shape w V P S G Live depth path) where
  -- no node but the root is at depth 0
  pub root_only : (x : ℕ) → Live x → depth x ≡ 0 → x ≡ 0
  root_only x l e = t.alone x 0 l t.root (e ∙ sym t.top.0) (omega (arith, t.top.1, rw e at (t.narrow x l)))

  -- two cells that lead to one place are one
  pub same_cell : (a b i k : ℕ) → Live a → b < 16 → Live i → k < 16 → depth a + 1 ≡ depth i + 1 → 16 * path a + b ≡ 16 * path i + k → (a ≡ i) × (b ≡ k)
  same_cell a b i k al bl il kl ed ep = (t.alone a i al il (omega arith) (omega arith), omega arith)

  -- two cells that name one node are one
  pub one_name : (a b i k : ℕ) → Live a → b < 16 → Live i → k < 16 → G a b ≡ G i k → G i k ≢ 0 → (a ≡ i) × (b ≡ k)
  one_name a b i k al bl il kl e n =
      let x = t.goes_on a b al bl (λ z. n (sym e ∙ z)) in
      let y = t.goes_on i k il kl n in
      same_cell a b i k al bl il kl (sym x.deep ∙ ap depth e ∙ y.deep) (sym x.along ∙ ap path e ∙ y.along)

  module _ (closed : Closed P) where
    down : (d c k : ℕ) → k < 16 → P (d + 1) (16 * c + k) → (f : Found Live depth path d c) → Child Live depth path f.node k (G f.node k)
    down d c k l p f =
        t.goes_on f.node k f.live l
        (λ z. t.stops f.node k f.live l z (carry P (ap (λ (x : ℕ). x + 1) (sym f.deep)) (ap (λ (x : ℕ). 16 * x + k) (sym f.along)) p))

    -- each place that is needed has a node
    pub found : (d c : ℕ) → c < 16 ^ d → P d c → Found Live depth path d c
    found zero c l p = record { node = 0; live = t.root; deep = t.top.0; along = t.top.1 ∙ omega arith }
    found (suc d) c l p =
        let q : P (d + 1) (16 * (c / 16) + c % 16) = carry P (omega arith) (omega arith) p in
        let f = found d (c / 16) (omega arith) (closed d (c / 16) (c % 16) (omega arith) q) in
        let child = down d (c / 16) (c % 16) (omega arith) q f in
        record {
          node = G f.node (c % 16);
          live = child.live;
          deep = child.deep ∙ omega (arith, f.deep);
          along = child.along ∙ omega (arith, f.along);
        }

    named_at : (x d : ℕ) → 0 < x → Live x → depth x ≡ d → Named G Live x
    named_at x zero pos l e = absurd (let y = root_only x l e in omega arith)
    named_at x (suc d) pos l e =
        let k : ℕ = path x % 16 in
        let low : path x < 16 ^ suc d = rw e at (t.narrow x l) in
        let q : P (d + 1) (16 * (path x / 16) + k) = carry P (omega arith) (omega arith) (t.used x pos l) in
        let f = found d (path x / 16) (omega arith) (closed d (path x / 16) k (omega arith) q) in
        let child = down d (path x / 16) k (omega arith) q f in
        let names : G f.node k ≡ x = t.alone _ x child.live l (omega (arith, child.deep, f.deep)) (omega (arith, child.along, f.along)) in
        record {
          parent = f.node;
          nibble = k;
          live = f.live;
          small = omega arith;
          names = names;
          only = λ i b il bl g. one_name i b f.node k il bl f.live (omega arith) (g ∙ sym names) (λ z. omega arith);
        }

    -- each node but the root is named by just one cell
    pub named : (x : ℕ) → 0 < x → Live x → Named G Live x
    named x pos l = named_at x (depth x) pos l refl
