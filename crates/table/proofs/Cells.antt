-- The words of a node's cells, found length by length. Assumes nothing.
use Rattle.std.proofs.Common.{◌≡◌, ℕ, zero, suc, ◌+◌, ◌-◌, ◌*◌, ◌/◌, ◌%◌, ◌^◌, ◌<◌, ◌≤◌, true, ◌≢◌, List, sym, refl, ap, ◌∙◌, arith, pow_mono}
use Rattle.std.proofs.lemmas.Nat.{shr_below, shr-shr, pow-add}
use Rattle.prefix.specs.Routes.{Route, first, good, held}
use Rattle.prefix.specs.Map.{Hops, hops, or_else}
use Rattle.prefix.proofs.Map.{hops_sized}
use Rattle.trie.specs.Shape.{local}
use Rattle.grow.specs.Ways.{depth_of}
use Rattle.grow.specs.Cells.{path_of}
use Rattle.table.specs.Words.{down}

down_found : (m : Hops) (l path more v : ℕ) → 0 < more → m l path ≡ suc v → suc v ≡ down m l path more
down_found m l path zero v h e = absurd (omega arith)
down_found m l path (suc more) v h e = rw e

down_missed : (m : Hops) (l path more : ℕ) → 0 < more → m l path ≡ 0 → down m (l - 1) (path / 2) (more - 1) ≡ down m l path more
down_missed m l path zero h e = absurd (omega arith)
down_missed m l path (suc more) h e = let less : suc more - 1 ≡ more = omega arith in rw (e, less)

or_nothing : (a : ℕ) → or_else a 0 ≡ a
or_nothing zero = refl
or_nothing (suc a) = refl

pub or_some : (a b : ℕ) → (a ≡ 0 → ⊥) → a ≡ or_else a b
or_some zero b h = absurd (h refl)
or_some (suc a) b h = refl

-- four lengths are those of a node
pub down_local : (m : Hops) (d c : ℕ) → down m (4 * d + 4) c 4 ≡ local m d c
unfolding local
down_local m d c =
    let l3 : 4 * d + 4 - 1 ≡ 4 * d + 3 = omega arith in
    let l2 : 4 * d + 3 - 1 ≡ 4 * d + 2 = omega arith in
    let l1 : 4 * d + 2 - 1 ≡ 4 * d + 1 = omega arith in
    let c2 : c / 2 / 2 ≡ c / 4 = omega arith in
    let c3 : c / 4 / 2 ≡ c / 8 = omega arith in
    rw (l3, l2, l1, c2, c3, or_nothing)

-- a path without its last bit is one of a bit less
pub half_below : (path len : ℕ) → 0 < len → path < 2 ^ len → path / 2 < 2 ^ (len - 1)
half_below path len h l = let e : len ≡ (len - 1) + 1 = omega arith in shr_below path (len - 1) 1 (rw e at l)

module _ (w : ℕ) (rs : List Route) (len path bits more : ℕ) (some : 0 < more) (at : bits ≡ path * 2 ^ (w - len)) where
  pub found_word : (hop : ℕ) → good w rs ≡ true → suc hop ≡ held len bits rs → (hop + 1) % 4294967296 ≡ down (hops w rs) len path more
  unfolding hops
  found_word hop g e =
      let there : hops w rs len path ≡ suc hop = ap (λ (b : ℕ). held len b rs) (sym at) ∙ sym e in
      let ne : hops w rs len path ≢ 0 = omega arith in
      let low = (hops_sized w rs len path g ne).hop_fits in
      let whole : (hop + 1) % 4294967296 ≡ suc hop = omega arith in
      whole ∙ down_found (hops w rs) len path more hop some there

  pub missed_word : (0 ≡ held len bits rs) → down (hops w rs) (len - 1) (path / 2) (more - 1) ≡ down (hops w rs) len path more
  unfolding hops
  missed_word e = down_missed (hops w rs) len path more some (ap (λ (b : ℕ). held len b rs) (sym at) ∙ sym e)

-- a path with a nibble more is one of four bits more
pub joined_below : (path depth k : ℕ) → path < 2 ^ (4 * depth) → k < 16 → 16 * path + k < 2 ^ (4 * depth + 4)
joined_below path depth k h l = omega (arith, pow-add 2 (4 * depth) 4)

pub joined_fits : (w path depth k : ℕ) → 4 * depth + 4 ≤ w → path < 2 ^ (4 * depth) → k < 16 → 16 * path + k < 2 ^ w
joined_fits w path depth k deep h l = omega (arith, joined_below path depth k h l, pow_mono deep)

-- the path to the last node of a prefix is the first bits of the key, as far as that node is deep
pub path_first : (w l x : ℕ) → 0 < l → l ≤ w → path_of l (first w l x) (depth_of l) ≡ first w (4 * depth_of l) x
path_first w l x some short =
    let e : (w - l) + (l - 4 * depth_of l) ≡ w - 4 * depth_of l = omega arith in
    shr-shr x (w - l) (l - 4 * depth_of l) ∙ ap (λ (n : ℕ). x / 2 ^ n) e
