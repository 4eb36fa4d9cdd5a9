-- A lookup in the trie of a map finds the map's longest prefix: the main theorem, for the proof of `look`. Assumes nothing.
use Rattle.std.proofs.Common.{◌≡◌, ℕ, zero, suc, ◌+◌, ◌-◌, ◌*◌, ◌/◌, ◌%◌, ◌^◌, ◌<◌, ◌≤◌, true, ◌≢◌, List, length, sym, refl, ap, ◌∙◌, ⊎_elim, add-mul, div-one, add-one, arith}
use native.Mathlib.Numerals.{add-two, add-three, add-four}
use Rattle.std.proofs.lemmas.Nat.{shr-shr, shr_high, div-add-mod', div_below, mod_below, pow-add, pow_pos}
use Rattle.std.proofs.lemmas.Bool.{cases_eq}
use Rattle.prefix.specs.Routes.{Route, first, answer, good}
use Rattle.prefix.specs.Map.{Hops, hops, or_else, longest}
use Rattle.prefix.proofs.Map.{answer_longest}
use Rattle.prefix.proofs.Nibbles.{rest_of, first_top, first_low, fits_width}
use Rattle.trie.specs.Nodes.{said, goes, nibbles, looked}
use Rattle.trie.specs.Shape.{local, Deeper, Shape, TrieOf}
use Rattle.trie.proofs.Steps.{ends, more}

or_assoc : (a b c : ℕ) → or_else (or_else a b) c ≡ or_else a (or_else b c)
or_assoc zero b c = refl
or_assoc (suc a) b c = refl

-- no prefix of l + 1 to l + n bits is in the map, so they add nothing
longest_same : (m : Hops) (w x l n : ℕ) → ((j : ℕ) → l < j → j ≤ l + n → m j (first w j x) ≡ 0) → longest m w x (l + n) ≡ longest m w x l
unfolding longest
longest_same m w x l zero h = let e : l + 0 ≡ l = omega arith in rw e
longest_same m w x l (suc n) h =
    let e : l + suc n ≡ suc (l + n) = omega arith in
    let z : m (suc (l + n)) (first w (suc (l + n)) x) ≡ 0 = h (suc (l + n)) (omega arith) (omega arith) in
    rw (e, z) (longest_same m w x l n (λ j a b. h j a (omega arith)))

-- a prefix of x that is no longer than the path c is one of c, and one that is longer begins with it
shorter : (w x c n l j : ℕ) → x / 2 ^ n ≡ c → w - l ≡ n + j → first w l x ≡ c / 2 ^ j
shorter w x c n l j e f = rw (f, ← shr-shr, e)

longer : (w x c n l j : ℕ) → x / 2 ^ n ≡ c → n ≡ (w - l) + j → first w l x / 2 ^ j ≡ c
longer w x c n l j e f = rw (← e, f) (shr-shr x (w - l) j)

-- the prefixes of four more bits
longest_more : (m : Hops) (w x d c n : ℕ) → x / 2 ^ n ≡ c → 4 * d + 4 + n ≡ w → longest m w x (4 * d + 4) ≡ or_else (local m d c) (longest m w x (4 * d))
unfolding longest local
longest_more m w x d c n e f =
    let a4 : first w (suc (suc (suc (suc (4 * d))))) x ≡ c = shorter w x c n _ 0 e (omega arith) ∙ div-one c in
    let a3 : first w (suc (suc (suc (4 * d)))) x ≡ c / 2 = shorter w x c n _ 1 e (omega arith) in
    let a2 : first w (suc (suc (4 * d))) x ≡ c / 4 = shorter w x c n _ 2 e (omega arith) in
    let a1 : first w (suc (4 * d)) x ≡ c / 8 = shorter w x c n _ 3 e (omega arith) in
    simp (add-one, add-two, add-three, add-four, or_assoc, a4, a3, a2, a1)

-- x is the path c and behind it the first 4 s bits of the key
record At (w s c key x : ℕ) : Type 0 where
  is : x ≡ c * 2 ^ (4 * s) + first w (4 * s) key
  path : x / 2 ^ (4 * s) ≡ c
  small : key / 2 ^ (w - 4) < 16

-- and so it goes on by the key's highest nibble
at_more : (w s c key x : ℕ) → 4 * suc s ≤ w → At w (suc s) c key x → At w s (16 * c + key / 2 ^ (w - 4)) (rest_of w key) x
at_more w s c key x fits h =
    let k : ℕ = key / 2 ^ (w - 4) in
    let b : ℕ = first w (4 * suc s) key in
    let r : ℕ = first w (4 * s) (rest_of w key) in
    let four : 4 * suc s - 4 ≡ 4 * s = omega arith in
    let up : 4 * suc s ≡ 4 * s + 4 = omega arith in
    let long : 4 ≤ 4 * suc s = omega arith in
    let top : b / 2 ^ (4 * s) ≡ k = rw four at (first_top w (4 * suc s) key long fits) in
    let low : b % 2 ^ (4 * s) ≡ r = rw four at (first_low w (4 * suc s) key long fits) in
    let more : 2 ^ (4 * suc s) ≡ 2 ^ (4 * s) * 16 = rw up (pow-add 2 (4 * s) 4) in
    let whole : b / 2 ^ (4 * s) * 2 ^ (4 * s) + b % 2 ^ (4 * s) ≡ b = div-add-mod' b (2 ^ (4 * s)) in
    let sum : k * 2 ^ (4 * s) + r ≡ b = rw (top, low) at whole in
    let is : x ≡ (16 * c + k) * 2 ^ (4 * s) + r = omega (arith, h.is, ap (λ (p : ℕ). c * p) more, add-mul (16 * c) k (2 ^ (4 * s))) in
    let below : r < 2 ^ (4 * s) = rw low at (mod_below b (2 ^ (4 * s)) (pow_pos (4 * s))) in
    record {
      is = is;
      path = rw is (shr_high (16 * c + k) (4 * s) r below);
      small = div_below (rest_of w key) (2 ^ (w - 4)) 16 (pow_pos (w - 4)) (omega (arith, mod_below key (2 ^ (w - 4)) (pow_pos (w - 4))));
    }

-- before the first step
at_start : (w s key : ℕ) → 0 < s → 4 * s ≡ w → key / 2 ^ (w - 4) < 16 → At w s 0 key key
at_start w s key some e small =
    let all : w - 4 * s ≡ 0 = omega arith in
    let low : key < 2 ^ (4 * s) = rw e (fits_width w key (omega arith) small) in
    record {
      is = rw (all, div-one key) (omega arith);
      path = omega (arith, div_below key (2 ^ (4 * s)) 1 (pow_pos (4 * s)) (omega arith));
      small = small;
    }

-- over any live nodes, as while some are free; each lies in the row
module _ {w : ℕ} {m : Hops} (t : List ℕ) {Live : ℕ → Type 0} {depth path : ℕ → ℕ} (shape : Shape w (local m) (Deeper m) (said t) (goes t) Live depth path)
    (fits : (i : ℕ) → Live i → 32 * i + 32 ≤ length t) where
  -- where a cell names no node, no longer prefix of the key is in the map
  none_longer :
      (i k n x : ℕ) → Live i → k < 16 → goes t i k ≡ 0 → 4 * depth i + 4 + n ≡ w → x / 2 ^ n ≡ 16 * path i + k
      → longest m w x w ≡ longest m w x (4 * depth i + 4)
  none_longer i k n x il kl stop e v =
      let d : ℕ = depth i in
      let none : (j : ℕ) → 4 * d + 4 < j → j ≤ 4 * d + 4 + n → m j (first w j x) ≡ 0 =
      λ j lo hi.
      ⊎_elim (λ z. z)
      (λ some. absurd
      (shape.stops i k il kl stop
      record { len = j; bits = first w j x; long = omega arith; there = some; begins = longer w x (16 * path i + k) n j (j - 4 * (d + 1)) v (omega arith) }))
      (cases_eq (m j (first w j x)) 0) in
      ap (longest m w x) (sym e) ∙ longest_same m w x (4 * d + 4) n none

  -- from a node on: found or else z is what the prefixes as far as the node answer
  descent :
      (s i key found z x : ℕ) → Live i → 4 * (depth i + s) ≡ w → At w s (path i) key x → or_else found z ≡ longest m w x (4 * depth i)
      → or_else (looked t i (nibbles w s key) found) z ≡ longest m w x w
  unfolding looked nibbles
  descent zero i key found z x il e at so = so ∙ ap (longest m w x) (omega arith)
  descent (suc s) i key found z x il e at so =
      let d : ℕ = depth i in
      let k : ℕ = key / 2 ^ (w - 4) in
      let on = at_more w s (path i) key x (omega arith) at in
      let in_row : 32 * i + (2 * k + 1) < length t = omega (arith, fits i il, at.small) in
      let best : ℕ = or_else (said t i k) found in
      let so' : or_else best z ≡ longest m w x (4 * d + 4) =
      or_assoc (said t i k) found z ∙ rw (so, shape.says i k il at.small) (sym (longest_more m w x d _ (4 * s) on.path (omega arith))) in
      ⊎_elim
      (λ (stop : goes t i k ≡ 0).
      rw (ends t i k (nibbles w s (rest_of w key)) found in_row stop) (so' ∙ sym (none_longer i k (4 * s) x il at.small stop (omega arith) on.path)))
      (λ (go : goes t i k ≢ 0).
      let child = shape.goes_on i k il at.small go in
      let deep : 4 * d + 4 ≡ 4 * depth (goes t i k) = omega (arith, child.deep) in
      rw (more t i k (nibbles w s (rest_of w key)) found in_row go)
      (descent s (goes t i k) (rest_of w key) best z x child.live (omega (arith, child.deep)) (rw child.along on) (so' ∙ ap (longest m w x) deep)))
      (cases_eq (goes t i k) 0)

  -- the trie of a map answers as the map, where the prefix of no bits is added
  pub looked_live :
      (s key : ℕ) → 0 < s → 4 * s ≡ w → key / 2 ^ (w - 4) < 16 → or_else (looked t 0 (nibbles w s key) 0) (m 0 0) ≡ longest m w key w
  unfolding longest
  looked_live s key some e small =
      let at : At w s (path 0) key key = rw shape.top.1 (at_start w s key some e small) in
      let none : first w 0 key ≡ 0 = let p = (at_start w s key some e small).path in ap (λ (n : ℕ). key / 2 ^ n) (omega arith) ∙ p in
      let deep : 4 * depth 0 ≡ 0 = omega (arith, shape.top.0) in
      descent s 0 key 0 (m 0 0) key shape.root (omega (arith, shape.top.0)) at (sym (ap (longest m w key) deep ∙ ap (m 0) none))

-- the main theorem: the trie of a map answers as the map, where the prefix of no bits is added
pub looked_longest :
    {w : ℕ} {m : Hops} {t : List ℕ} {nodes : ℕ} → TrieOf w m t nodes
    → (s key : ℕ) → 0 < s → 4 * s ≡ w → key / 2 ^ (w - 4) < 16 → or_else (looked t 0 (nibbles w s key) 0) (m 0 0) ≡ longest m w key w
looked_longest {t = t} trie = looked_live t trie.shape (λ i l. omega (arith, trie.fits))

-- and so the trie of a list answers as the list
pub looked_answer :
    {w : ℕ} (rs : List Route) {t : List ℕ} {nodes : ℕ} → good w rs ≡ true → TrieOf w (hops w rs) t nodes
    → (s key : ℕ) → 0 < s → 4 * s ≡ w → key / 2 ^ (w - 4) < 16 → or_else (looked t 0 (nibbles w s key) 0) (hops w rs 0 0) ≡ answer w rs key
looked_answer {w} rs g trie s key some e small = looked_longest trie s key some e small ∙ sym (answer_longest w rs key g)
