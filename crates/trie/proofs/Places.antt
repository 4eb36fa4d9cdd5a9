-- Which places a map needs, what its cells say, and how that changes with one prefix. For the theorems, and for crates that change tries. Assumes nothing.
use Rattle.std.proofs.Common.{◌≡◌, ℕ, zero, suc, ◌+◌, ◌-◌, ◌*◌, ◌/◌, ◌%◌, ◌^◌, ◌<◌, ◌≤◌, ◌≢◌, ◌⊎◌, ◌↔◌, sym, refl, ap, ◌∙◌, inl, inr, ⊎_elim, arith}
use Rattle.std.proofs.lemmas.Nat.{shr-shr, div_below, pow_pos}
use Rattle.std.proofs.lemmas.Bool.{cases_eq, cases_lt}
use Rattle.prefix.specs.Map.{Hops, or_else}
use Rattle.trie.specs.Shape.{local, Deeper, Child}
use Rattle.trie.specs.Places.{Way, step, Along, Covers, Apart, Shows}
use Rattle.trie.proofs.Shapes.{carry, Closed, cell_cases}

-- first bits cut to d nibbles and then to e are cut to e
cut_more : (l q d e : ℕ) → e ≤ d → 4 * d ≤ l → q / 2 ^ (l - 4 * d) / 2 ^ (4 * (d - e)) ≡ q / 2 ^ (l - 4 * e)
cut_more l q d e h g =
    let s : l - 4 * d + 4 * (d - e) ≡ l - 4 * e = omega arith in
    shr-shr q (l - 4 * d) (4 * (d - e)) ∙ ap (λ (x : ℕ). q / 2 ^ x) s

cut_one : (l q d : ℕ) → 4 * (d + 1) ≤ l → q / 2 ^ (l - 4 * (d + 1)) / 16 ≡ q / 2 ^ (l - 4 * d)
cut_one l q d g =
    let s : l - 4 * (d + 1) + 4 ≡ l - 4 * d = omega arith in
    shr-shr q (l - 4 * (d + 1)) 4 ∙ ap (λ (x : ℕ). q / 2 ^ x) s

-- a way begins at the root
pub way_root : (l q : ℕ) → 0 < l → q < 2 ^ l → Way l q 0 0
way_root l q p s =
    let e : l - 4 * 0 ≡ l = omega arith in
    record { long = omega arith; begins = rw e (omega (arith, div_below q (2 ^ l) 1 (pow_pos l) (omega arith))) }

-- a way goes through all places above
pub way_closed : (l q : ℕ) → Closed (Way l q)
way_closed l q d c k h y = record { long = omega (arith, y.long); begins = sym (cut_one l q d (omega (arith, y.long))) ∙ omega (arith, y.begins) }

-- and on by its steps
pub way_on : (l q d c : ℕ) → Way l q d c → 4 * (d + 1) < l → Way l q (d + 1) (16 * c + step l q d)
way_on l q d c y h = record { long = h; begins = omega (arith, y.begins, cut_one l q d (omega arith)) }

-- from node to node
pub way_child :
    {Live : ℕ → Type 0} {depth path : ℕ → ℕ} (l q i c : ℕ) → Way l q (depth i) (path i) → 4 * (depth i + 1) < l
    → Child Live depth path i (step l q (depth i)) c → Way l q (depth c) (path c)
way_child l q i c y h x = carry (Way l q) (sym x.deep) (sym x.along) (way_on l q _ _ y h)

-- what is needed is so for a prefix on whose way it lies
deeper_way : {m : Hops} {d c : ℕ} → (y : Deeper m d c) → Way y.len y.bits d c
deeper_way y = record { long = y.long; begins = y.begins }

pub way_deeper : (m : Hops) (l q d c : ℕ) → m l q ≢ 0 → Way l q d c → Deeper m d c
way_deeper m l q d c n y = record { len = l; bits = q; long = y.long; there = n; begins = y.begins }

pub deeper_closed : (m : Hops) → Closed (Deeper m)
deeper_closed m d c k h y = way_deeper m y.len y.bits d c y.there (way_closed y.len y.bits d c k h (deeper_way y))

pub along_closed : (m : Hops) (l q e : ℕ) → Closed (Along m l q e)
along_closed m l q e d c k h =
    ⊎_elim (λ y. inl (deeper_closed m d c k h y)) (λ (y : (d + 1 ≤ e) × Way l q (d + 1) (16 * c + k)). inr (omega arith, way_closed l q d c k h y.1))

-- on a way, all above a place that is needed is needed
pub deeper_above : (m : Hops) (l q e d c : ℕ) → d ≤ e → 4 * e < l → Deeper m e (q / 2 ^ (l - 4 * e)) → Way l q d c → Deeper m d c
deeper_above m l q e d c h g y z =
    let begins : y.bits / 2 ^ (y.len - 4 * d) ≡ c =
    sym (cut_more y.len y.bits e d h (omega (arith, y.long))) ∙ ap (λ (x : ℕ). x / 2 ^ (4 * (e - d))) y.begins ∙ cut_more l q e d h (omega arith) ∙ z.begins in
    record { len = y.len; bits = y.bits; long = omega (arith, y.long); there = y.there; begins = begins }

-- a map that differs at one prefix needs at most its way beside
pub changed_deeper : (m m' : Hops) (l q d c : ℕ) → Apart m m' l q → Deeper m' d c → Deeper m d c ⊎ Way l q d c
changed_deeper m m' l q d c apart y =
    ⊎_elim
    (λ (e : (y.len ≡ l) × (y.bits ≡ q)).
    inr (record { long = omega (arith, y.long); begins = ap (λ (x : ℕ). x / 2 ^ (l - 4 * d)) (sym e.1) ∙ ap (λ (x : ℕ). y.bits / 2 ^ (x - 4 * d)) (sym e.0) ∙ y.begins }))
    (λ n. inl (way_deeper m y.len y.bits d c (λ z. y.there (apart y.len y.bits n ∙ z)) (deeper_way y)))
    (cell_cases y.len y.bits l q)

or_some : (a b : ℕ) → or_else a b ≢ 0 → (a ≢ 0) ⊎ (b ≢ 0)
or_some zero b n = inr n
or_some (suc a) b n = inl n

-- a node whose cell says something is needed
pub local_deeper : (m : Hops) (d c k : ℕ) → k < 16 → local m d (16 * c + k) ≢ 0 → Deeper m d c
unfolding local
local_deeper m d c k h n =
    ⊎_elim (at 4 (16 * c + k) (omega arith) (omega arith))
    (λ n₃. ⊎_elim (at 3 ((16 * c + k) / 2) (omega arith) (omega arith))
    (λ n₂. ⊎_elim (at 2 ((16 * c + k) / 4) (omega arith) (omega arith)) (at 1 ((16 * c + k) / 8) (omega arith) (omega arith)) (or_some _ _ n₂))
    (or_some _ _ n₃))
    (or_some _ _ n)
  where
    at : (j b : ℕ) → 0 < j → b / 2 ^ j ≡ c → m (4 * d + j) b ≢ 0 → Deeper m d c
    at j b p e n =
        let s : 4 * d + j - 4 * d ≡ j = omega arith in
        record { len = 4 * d + j; bits = b; long = omega arith; there = n; begins = ap (λ (x : ℕ). b / 2 ^ x) s ∙ e }

-- where the prefix at which two maps differ does not answer, cells say the same
pub local_same : (m m' : Hops) (l q d c : ℕ) → Apart m m' l q → (Covers l q d c → ⊥) → local m' d c ≡ local m d c
unfolding local
local_same m m' l q d c apart out =
    let e₄ = apart (4 * d + 4) c (at 4 0 c refl (omega arith) (omega arith)) in
    let e₃ = apart (4 * d + 3) (c / 2) (at 3 1 (c / 2) refl (omega arith) (omega arith)) in
    let e₂ = apart (4 * d + 2) (c / 4) (at 2 2 (c / 4) refl (omega arith) (omega arith)) in
    let e₁ = apart (4 * d + 1) (c / 8) (at 1 3 (c / 8) refl (omega arith) (omega arith)) in
    cc
  where
    at : (j r b : ℕ) → j + r ≡ 4 → 0 < j → c / 2 ^ r ≡ b → 4 * d + j ≡ l → b ≡ q → ⊥
    at j r b s p e i g =
        let u : 4 * d + 4 - l ≡ r = omega arith in
        out (record { long = omega arith; short = omega arith; fits = ap (λ (x : ℕ). c / 2 ^ x) u ∙ e ∙ g })

or_none : (a b : ℕ) → or_else a b ≡ 0 → (a ≡ 0) × (b ≡ 0)
or_none zero b e = (refl, e)
or_none (suc a) b e = absurd (omega arith)

-- where a cell says nothing, the map has none of its prefixes
local_none : (m : Hops) (d c : ℕ) → local m d c ≡ 0 → (m (4 * d + 4) c ≡ 0) × (m (4 * d + 3) (c / 2) ≡ 0) × (m (4 * d + 2) (c / 4) ≡ 0) × (m (4 * d + 1) (c / 8) ≡ 0)
unfolding local
local_none m d c e =
    let a = or_none _ _ e in
    let b = or_none _ _ a.1 in
    let c = or_none _ _ b.1 in
    (a.0, b.0, c.0, c.1)

-- what is needed shows in a cell
pub shows : (m : Hops) (d c : ℕ) → Deeper m d c → Shows m d c
shows m d c y = go (y.len - (4 * d + 1)) (omega (arith, y.long))
  where
    begins : (j : ℕ) → y.len ≡ 4 * d + j → y.bits / 2 ^ j ≡ c
    begins j e =
        let s : j ≡ y.len - 4 * d = omega arith in
        ap (λ (x : ℕ). y.bits / 2 ^ x) s ∙ y.begins

    at : (j k b : ℕ) → y.len ≡ 4 * d + j → b ≡ y.bits → k < 16 → (local m d (16 * c + k) ≡ 0 → m (4 * d + j) b ≡ 0) → Shows m d c
    at j k b e g h z = record { nibble = k; small = h; how = inl (λ n. y.there (let o = z n in cc)) }

    go : (j : ℕ) → y.len ≡ 4 * d + 1 + j → Shows m d c
    go zero e =
        let b = begins 1 (omega arith) in
        at 1 (y.bits % 2 * 8) ((16 * c + y.bits % 2 * 8) / 8) (omega arith) (omega arith) (omega arith) (λ n. (local_none m d _ n).3)
    go (suc zero) e =
        let b = begins 2 (omega arith) in
        at 2 (y.bits % 4 * 4) ((16 * c + y.bits % 4 * 4) / 4) (omega arith) (omega arith) (omega arith) (λ n. (local_none m d _ n).2)
    go (suc (suc zero)) e =
        let b = begins 3 (omega arith) in
        at 3 (y.bits % 8 * 2) ((16 * c + y.bits % 8 * 2) / 2) (omega arith) (omega arith) (omega arith) (λ n. (local_none m d _ n).1)
    go (suc (suc (suc zero))) e =
        let b = begins 4 (omega arith) in
        at 4 (y.bits % 16) (16 * c + y.bits % 16) (omega arith) (omega arith) (omega arith) (λ n. (local_none m d _ n).0)
    go (suc (suc (suc (suc j)))) e =
        let on = way_on y.len y.bits d c (deeper_way y) (omega arith) in
        record { nibble = step y.len y.bits d; small = omega arith; how = inr (way_deeper m y.len y.bits (d + 1) _ y.there on) }

-- a prefix answers in cells of the last node of its way
pub covers_way : (l q d p k : ℕ) → k < 16 → Covers l q d (16 * p + k) → Way l q d p
covers_way l q d p k h y =
    let long = y.long in
    let short = y.short in
    let s : 4 * d + 4 - l + (l - 4 * d) ≡ 4 = omega arith in
    let begins : q / 2 ^ (l - 4 * d) ≡ p =
    ap (λ (x : ℕ). x / 2 ^ (l - 4 * d)) (sym y.fits) ∙ shr-shr (16 * p + k) (4 * d + 4 - l) (l - 4 * d) ∙ ap (λ (x : ℕ). (16 * p + k) / 2 ^ x) s ∙ omega arith in
    record { long = long; begins = begins }

pub covers_cases : (l q d c : ℕ) → Covers l q d c ⊎ (Covers l q d c → ⊥)
covers_cases l q d c =
    ⊎_elim (λ a. ⊎_elim (λ b. ⊎_elim (λ f. inl (record { long = a; short = omega arith; fits = f })) (λ n. inr (λ y. n y.fits)) (cases_eq (c / 2 ^ (4 * d + 4 - l)) q))
    (λ n. inr (λ y. omega (arith, y.short))) (cases_lt l (4 * d + 5)))
    (λ n. inr (λ y. omega (arith, y.long))) (cases_lt (4 * d) l)

-- the cells of a node in which a prefix answers stand together: 2 ^ r of them, where it leaves r bits of the nibble open
pub covered_cells :
    (r p q k : ℕ) → r < 4 → q / 2 ^ (4 - r) ≡ p → k < 16
    → ((16 * p + k) / 2 ^ r ≡ q) ↔ ((q % 2 ^ (4 - r) * 2 ^ r ≤ k) × (k < q % 2 ^ (4 - r) * 2 ^ r + 2 ^ r))
covered_cells zero p q k h e l = omega arith
covered_cells (suc zero) p q k h e l = omega arith
covered_cells (suc (suc zero)) p q k h e l = omega arith
covered_cells (suc (suc (suc zero))) p q k h e l = omega arith
covered_cells (suc (suc (suc (suc r)))) p q k h e l = absurd (omega arith)
