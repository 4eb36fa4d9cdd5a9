-- What is still ahead of a prefix on its way down: the next nibble, and what lies behind it. For the proofs of the code that goes down. Assumes nothing.
use Rattle.std.proofs.Common.{◌≡◌, ℕ, ◌+◌, ◌-◌, ◌*◌, ◌/◌, ◌%◌, ◌^◌, ◌<◌, ◌≤◌, sym, ap, ◌∙◌, mod-eq_of_lt, arith}
use Rattle.std.proofs.lemmas.Nat.{field_of, mod-pow-add, mod_low, mod_below, shr_below, pow_pos}
use Rattle.prefix.specs.Routes.{first}
use Rattle.prefix.proofs.Nibbles.{rest_of, fits_width, first_top, first_low}
use Rattle.trie.specs.Places.{step}
use Rattle.grow.specs.Ways.{depth_of, Ahead}

-- the lower bits of some bits
pub mod_mod : (q j k : ℕ) → q % 2 ^ (j + k) % 2 ^ k ≡ q % 2 ^ k
mod_mod q j k = ap (λ (x : ℕ). x % 2 ^ k) (mod-pow-add q j k) ∙ mod_low (q / 2 ^ k % 2 ^ j) k (q % 2 ^ k) (mod_below q (2 ^ k) (pow_pos k))

-- so many first bits are a number of so many bits
pub first_small : (w l x : ℕ) → l ≤ w → x < 2 ^ w → first w l x < 2 ^ l
first_small w l x short small =
    let e : l + (w - l) ≡ w = omega arith in
    shr_below x l (w - l) (rw e small)

-- at the root all is left
pub ahead_start : (w l x : ℕ) → 0 < l → l ≤ w → x < 2 ^ w → Ahead w l (first w l x) 0 l x
ahead_start w l x some short small =
    record { some = some; whole = omega arith; short = short; bits = sym (mod-eq_of_lt (first_small w l x short small)) }

-- where its highest nibble is known, which says that the bits are a number of w bits
pub ahead_root : (w l x k : ℕ) → 4 ≤ w → 0 < l → l ≤ w → k ≡ x / 2 ^ (w - 4) → k < 16 → Ahead w l (first w l x) 0 l x × (first w l x < 2 ^ l)
ahead_root w l x k wide some short is low =
    let small = fits_width w x wide (omega arith) in
    (ahead_start w l x some short small, first_small w l x short small)

module _ {w l q d len rest : ℕ} (h : Ahead w l q d len rest) where
  -- less than a nibble, or just one, is left: this is the last node
  pub ahead_last : len ≤ 4 → d ≡ depth_of l
  ahead_last few = omega (arith, h.some, h.whole)

  module _ (more : 4 < len) where
    len_4 : l - 4 * (d + 1) ≡ len - 4
    len_4 = omega (arith, h.whole)

    -- the next nibble of the way is the highest of what is left
    pub ahead_step : rest / 2 ^ (w - 4) ≡ step l q d
    ahead_step =
        let e : 4 + (len - 4) ≡ len = omega arith in
        let f : q % 2 ^ len / 2 ^ (len - 4) ≡ q / 2 ^ (len - 4) % 16 = ap (λ (x : ℕ). q % 2 ^ x / 2 ^ (len - 4)) (sym e) ∙ field_of q 4 (len - 4) in
        sym (first_top w len rest (omega arith) (omega (arith, h.whole, h.short))) ∙ ap (λ (x : ℕ). x / 2 ^ (len - 4)) h.bits ∙ f ∙ ap (λ (x : ℕ). q / 2 ^ x % 16) (sym len_4)

    -- and the others are left behind it
    pub ahead_on : (behind : ℕ) → behind ≡ rest_of w rest → Ahead w l q (d + 1) (len - 4) behind
    ahead_on behind is =
        let e : 4 + (len - 4) ≡ len = omega arith in
        record {
          some = omega arith;
          whole = omega (arith, h.whole);
          short = h.short;
          bits =
              ap (first w (len - 4)) is ∙ sym (first_low w len rest (omega arith) (omega (arith, h.whole, h.short))) ∙ ap (λ (x : ℕ). x % 2 ^ (len - 4)) h.bits
              ∙ ap (λ (x : ℕ). q % 2 ^ x % 2 ^ (len - 4)) (sym e) ∙ mod_mod q 4 (len - 4);
        }
