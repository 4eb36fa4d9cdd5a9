-- How many nodes a trie of a list has at most: a node is told by a route that needs it and by its depth. For the theorems, and for crates that change tries. Assumes nothing.
use Rattle.std.proofs.Common.{◌≡◌, ℕ, zero, suc, ◌+◌, ◌-◌, ◌*◌, ◌/◌, ◌%◌, ◌^◌, ◌<◌, ◌≤◌, Bool, true, false, cond, ◌&&◌, eqb, ◌≢◌, List, [], ◌∷◌, length, get_or, sym, refl, ap, ◌∙◌, arith}
use Rattle.std.proofs.lemmas.Nat.{mul-add-lt, div-mul-add, mod-mul-add, shl-shr}
use Rattle.std.proofs.lemmas.Bool.Decides.{nat_tests}
use Rattle.prefix.specs.Routes.{Route, held, no_route}
use Rattle.prefix.specs.Map.{hops}
use Rattle.trie.specs.Shape.{Deeper, Shape}
use Rattle.trie.proofs.Shapes.{root_only}

-- n things with different numbers below M are at most M
pub pigeon : (M n : ℕ) (f : (i : ℕ) → i < n → ℕ) → ((i : ℕ) (a : i < n) → f i a < M) → ((i j : ℕ) (a : i < n) (b : j < n) → f i a ≡ f j b → i ≡ j) → n ≤ M
pigeon zero zero f low one = omega arith
pigeon zero (suc n) f low one = absurd (let z : 0 < suc n = omega arith in omega (arith, low 0 z))
pigeon (suc M) zero f low one = omega arith
pigeon (suc M) (suc n) f low one = let r = pigeon M n g low' one' in omega arith
  where
    up : (i : ℕ) → i < n → i < suc n
    up i a = omega arith

    last : n < suc n
    last = omega arith

    -- the last thing's number goes to the one that has M
    g : (i : ℕ) → i < n → ℕ
    g i a = cond (eqb (f i (up i a)) M) (f n last) (f i (up i a))

    low' : (i : ℕ) (a : i < n) → cond (eqb (f i (up i a)) M) (f n last) (f i (up i a)) < M
    low' i a =
        let p = low i (up i a) in
        let q = low n last in
        let s = one i n (up i a) last in
        grind (arith, nat_tests)

    one' : (i j : ℕ) (a : i < n) (b : j < n) → cond (eqb (f i (up i a)) M) (f n last) (f i (up i a)) ≡ cond (eqb (f j (up j b)) M) (f n last) (f j (up j b)) → i ≡ j
    one' i j a b e =
        let p = one i j (up i a) (up j b) in
        let q = one i n (up i a) last in
        let s = one n j last (up j b) in
        grind (arith, nat_tests)

-- where a list has what it holds of a prefix
record Place (len bits : ℕ) (rs : List Route) : Type 0 where
  place : ℕ
  below : place < length rs
  same_len : (get_or rs place no_route).len ≡ len
  same_bits : (get_or rs place no_route).bits ≡ bits

place_of : (len bits : ℕ) (rs : List Route) → held len bits rs ≢ 0 → Place len bits rs
unfolding held
place_of len bits [] n = absurd (n refl)
place_of len bits (r ∷ rs) n = go (eqb r.len len && eqb r.bits bits) refl (place_of len bits rs)
  where
    go : (b : Bool) → (eqb r.len len && eqb r.bits bits) ≡ b → (held len bits rs ≢ 0 → Place len bits rs) → Place len bits (r ∷ rs)
    go true e rest = record { place = 0; below = omega arith; same_len = grind (arith, nat_tests); same_bits = grind (arith, nat_tests) }
    go false e rest =
        let y = rest (λ z. n (rw e z)) in
        record { place = suc y.place; below = omega (arith, y.below); same_len = y.same_len; same_bits = y.same_bits }

-- a trie of places that the list needs, in the middle of a change too
module _ {w : ℕ} {V S G : ℕ → ℕ → ℕ} {P : ℕ → ℕ → Type 0} {nodes : ℕ} {depth path : ℕ → ℕ} (rs : List Route) (g : ℕ) (e : w ≡ 4 * (g + 1))
    (needed : (d c : ℕ) → P d c → Deeper (hops w rs) d c) (t : Shape w V P S G (λ i. i < nodes) depth path) where
  -- node i + 1 is not the root, so its depth is one of g
  below_root : (i : ℕ) → i < nodes - 1 → (0 < depth (i + 1)) × (depth (i + 1) - 1 < g)
  below_root i a =
      let l : i + 1 < nodes = omega arith in
      let deep : depth (i + 1) ≢ 0 = λ z. let y = root_only t (i + 1) l z in omega arith in
      (omega arith, omega (arith, t.high (i + 1) l))

  -- the prefix for which a node is there
  need : (i : ℕ) → i < nodes - 1 → Deeper (hops w rs) (depth (i + 1)) (path (i + 1))
  need i a = needed _ _ (t.used (i + 1) (omega arith) (omega arith))

  -- and its route
  route : (i : ℕ) (a : i < nodes - 1) → Place (need i a).len ((need i a).bits * 2 ^ (w - (need i a).len)) rs
  unfolding hops
  route i a = place_of _ _ rs (need i a).there

  -- nodes that a route needs at one depth are one
  one : (i j : ℕ) (a : i < nodes - 1) (b : j < nodes - 1) → (route i a).place * g + (depth (i + 1) - 1) ≡ (route j b).place * g + (depth (j + 1) - 1) → i ≡ j
  one i j a b u =
      let x = need i a in
      let y = need j b in
      let ra = (below_root i a).1 in
      let rb = (below_root j b).1 in
      let p = sym (div-mul-add (route i a).place g _ ra) ∙ ap (λ (v : ℕ). v / g) u ∙ div-mul-add (route j b).place g _ rb in
      let r = sym (mod-mul-add (route i a).place g _ ra) ∙ ap (λ (v : ℕ). v % g) u ∙ mod-mul-add (route j b).place g _ rb in
      let d : depth (i + 1) ≡ depth (j + 1) = omega (arith, below_root i a, below_root j b) in
      let l : x.len ≡ y.len = sym (route i a).same_len ∙ ap (λ (v : ℕ). (get_or rs v no_route).len) p ∙ (route j b).same_len in
      let q : x.bits ≡ y.bits = cc (shl-shr x.bits (w - x.len), shl-shr y.bits (w - y.len), (route i a).same_bits, (route j b).same_bits) in
      let c : path (i + 1) ≡ path (j + 1) = cc (x.begins, y.begins) in
      let same = t.alone (i + 1) (j + 1) (omega arith) (omega arith) d c in
      omega arith

  -- each route needs at most g nodes beside the root
  pub room : nodes ≤ g * length rs + 1
  room =
      let r = pigeon (g * length rs) (nodes - 1) (λ i a. (route i a).place * g + (depth (i + 1) - 1))
      (λ i a. omega (arith, mul-add-lt (route i a).place g (depth (i + 1) - 1) (length rs) (route i a).below (below_root i a).1)) one in
      omega arith
