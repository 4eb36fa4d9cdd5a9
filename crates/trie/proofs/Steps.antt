-- How a lookup goes on by one nibble: for the proof of the code. Assumes nothing.
use Rattle.std.proofs.Common.{◌≡◌, ℕ, zero, suc, ◌+◌, ◌-◌, ◌*◌, ◌/◌, ◌^◌, ◌<◌, ◌≤◌, List, ◌∷◌, length, get_or, sym, refl, ap, ◌∙◌, arith}
use Rattle.std.proofs.lemmas.Bool.{lt-ltb, le-ltb, eq-eqb, ne_eqb}
use Rattle.prefix.specs.Map.{or_else}
use Rattle.prefix.proofs.Nibbles.{rest_of}
use Rattle.trie.specs.Nodes.{said, goes, nibbles, looked}

-- the row ends before the cell
pub past : (t : List ℕ) (n k : ℕ) (ks : List ℕ) (found : ℕ) → length t ≤ 32 * n + (2 * k + 1) → looked t n (k ∷ ks) found ≡ found
unfolding looked
past t n k ks found h = rw le-ltb

-- the cell names no node
pub ends : (t : List ℕ) (n k : ℕ) (ks : List ℕ) (found : ℕ) → 32 * n + (2 * k + 1) < length t → goes t n k ≡ 0 → looked t n (k ∷ ks) found ≡ or_else (said t n k) found
unfolding looked
ends t n k ks found h e = rw (lt-ltb, eq-eqb)

-- the cell names one
pub more : (t : List ℕ) (n k : ℕ) (ks : List ℕ) (found : ℕ) → 32 * n + (2 * k + 1) < length t → (goes t n k ≡ 0 → ⊥) → looked t n (k ∷ ks) found ≡ looked t (goes t n k) ks (or_else (said t n k) found)
unfolding looked
more t n k ks found h e = rw (lt-ltb, ne_eqb)

-- a step is left
pub nibbles_more : (w s x : ℕ) → (s ≡ 0 → ⊥) → nibbles w s x ≡ x / 2 ^ (w - 4) ∷ nibbles w (s - 1) (rest_of w x)
unfolding nibbles
nibbles_more w zero x h = absurd (h refl)
nibbles_more w (suc s) x h = let e : suc s - 1 ≡ s = omega arith in rw e

-- the code's step, with k the highest nibble of the key x and the cell's two numbers at 32 n + 2 k
module _ (w : ℕ) (t : List ℕ) (n s x found k : ℕ) (some : s ≡ 0 → ⊥) (top : k ≡ x / 2 ^ (w - 4)) where
  open_up : looked t n (nibbles w s x) found ≡ looked t n (k ∷ nibbles w (s - 1) (rest_of w x)) found
  open_up = rw (nibbles_more w s x some, ← top)

  pub step_past : length t - 1 ≤ 32 * n + 2 * k → found ≡ looked t n (nibbles w s x) found
  step_past h = sym (open_up ∙ past t n k _ found (omega arith))

  module _ (inside : 32 * n + 2 * k < length t - 1) (best : ℕ) (b : best ≡ or_else (get_or t (32 * n + 2 * k) 0) found) where
    in_row : 32 * n + (2 * k + 1) < length t
    in_row = omega arith

    link : get_or t (32 * n + 2 * k + 1) 0 ≡ goes t n k
    unfolding goes
    link = let at : 32 * n + 2 * k + 1 ≡ 32 * n + (2 * k + 1) = omega arith in ap (λ (i : ℕ). get_or t i 0) at

    found_so_far : or_else (said t n k) found ≡ best
    unfolding said
    found_so_far = sym b

    pub step_ends : get_or t (32 * n + 2 * k + 1) 0 ≡ 0 → best ≡ looked t n (nibbles w s x) found
    step_ends z = sym (open_up ∙ ends t n k _ found in_row (sym link ∙ z) ∙ found_so_far)

    pub step_on :
        (next rest : ℕ) → next ≡ get_or t (32 * n + 2 * k + 1) 0 → (next ≡ 0 → ⊥) → rest ≡ rest_of w x
        → looked t next (nibbles w (s - 1) rest) best ≡ looked t n (nibbles w s x) found
    step_on next rest e z r =
        rw (e ∙ link, r) (sym (open_up ∙ more t n k _ found in_row (λ (o : goes t n k ≡ 0). z (e ∙ link ∙ o)) ∙ ap (looked t (goes t n k) (nibbles w (s - 1) (rest_of w x))) found_so_far))
