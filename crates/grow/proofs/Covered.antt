-- Which cells a prefix covers in the last node of its way: those that end as it does. For the proof of `cells`. Assumes nothing.
use Rattle.std.proofs.Common.{◌≡◌, ℕ, zero, suc, ◌+◌, ◌-◌, ◌*◌, ◌/◌, ◌%◌, ◌^◌, ◌<◌, ◌≤◌, eqb, ◌↔◌, sym, ap, ◌∙◌, arith}
use Rattle.std.proofs.lemmas.Nat.{shr-shr}
use Rattle.std.proofs.lemmas.Bool.{eqb-true, eq-eqb}
use Rattle.grow.specs.Ways.{depth_of, Ahead}
use Rattle.grow.specs.Cells.{bit, path_of, Cells}

-- where r bits of the nibble are open
open_bits : (r p q k : ℕ) → r < 4 → q / 2 ^ (4 - r) ≡ p → k < 16 → ((16 * p + k) / 2 ^ r ≡ q) ↔ (k / 2 ^ r ≡ q % 2 ^ (4 - r))
open_bits zero p q k h e l = omega arith
open_bits (suc zero) p q k h e l = omega arith
open_bits (suc (suc zero)) p q k h e l = omega arith
open_bits (suc (suc (suc zero))) p q k h e l = omega arith
open_bits (suc (suc (suc (suc r)))) p q k h e l = absurd (omega arith)

-- the mask of the nibbles that begin as the last one of the prefix
pub ending_cells :
    (l q e mask nibble : ℕ) → 4 * e < l → l ≤ 4 * e + 4 → nibble / 2 ^ (4 * e + 4 - l) ≡ q % 2 ^ (l - 4 * e)
    → ((k : ℕ) → k < 16 → bit mask k ≡ eqb (k / 2 ^ (4 * e + 4 - l)) (nibble / 2 ^ (4 * e + 4 - l)))
    → Cells l q e mask
ending_cells l q e mask nibble long short ends bits k small =
    let r : ℕ = 4 * e + 4 - l in
    let j : l - 4 * e ≡ 4 - r = omega arith in
    let same = open_bits r (path_of l q e) q k (omega arith) (ap (λ (x : ℕ). q / 2 ^ x) (sym j)) small in
    let low : nibble / 2 ^ r ≡ q % 2 ^ (4 - r) = ends ∙ ap (λ (x : ℕ). q % 2 ^ x) j in
    let here = bits k small in (
      λ t. record { long = long; short = short; fits = same.1 (eqb-true _ _ (sym here ∙ t) ∙ low) },
      λ y. here ∙ eq-eqb _ _ (same.0 y.fits ∙ sym low),
    )

-- the highest nibble of what is left ends the prefix, where no more than a nibble is left
pub last_ends :
    {w l q d len rest : ℕ} (nibble : ℕ) → Ahead w l q d len rest → len ≤ 4 → 4 ≤ w → nibble ≡ rest / 2 ^ (w - 4)
    → nibble / 2 ^ (4 * depth_of l + 4 - l) ≡ q % 2 ^ (l - 4 * depth_of l)
last_ends {w} {l} {q} {d} {len} {rest} nibble h few wide is =
    let some = h.some in
    let whole = h.whole in
    let r : 4 * depth_of l + 4 - l ≡ 4 - len = omega arith in
    let j : len ≡ l - 4 * depth_of l = omega arith in
    let s : (w - 4) + (4 - len) ≡ w - len = omega arith in
    ap (λ (x : ℕ). nibble / 2 ^ x) r ∙ ap (λ (x : ℕ). x / 2 ^ (4 - len)) is ∙ shr-shr rest (w - 4) (4 - len) ∙ ap (λ (x : ℕ). rest / 2 ^ x) s ∙ h.bits
    ∙ ap (λ (x : ℕ). q % 2 ^ x) j
