-- The words of a node's cells while they are written, one by one. For the proof of `write_words`. Assumes nothing.
use Rattle.std.proofs.Common.{◌≡◌, ℕ, ◌+◌, ◌*◌, ◌<◌, Bool, true, false, cond, ◌≢◌, List, length, get_or, set, sym, ap, ◌∙◌, ⊎_elim, arith}
use Rattle.std.proofs.lemmas.List.{get_or-set_same, get_or-set_other}
use Rattle.std.proofs.lemmas.Bool.{cases_eq, true≢false}
use Rattle.grow.specs.Cells.{bit}

-- of the row s the words of the first n cells are written, as far as their bits are set, and t is that row
abbrev pub SoFar : (node mask : ℕ) (words s t : List ℕ) (n : ℕ) → Type 0
SoFar node mask words s t n =
    ((k : ℕ) → k < n → bit mask k ≡ true → get_or t (32 * node + 2 * k) 0 ≡ get_or words k 0)
    × ((x : ℕ) → ((k : ℕ) → k < n → bit mask k ≡ true → x ≡ 32 * node + 2 * k → ⊥) → get_or t x 0 ≡ get_or s x 0)

module _ (node mask : ℕ) (words s t : List ℕ) (n : ℕ) (in_row : 32 * node + 2 * n < length t) (h : SoFar node mask words s t n) where
  -- the next one, where its bit is set and where not
  pub word_more :
      (b : Bool) (t' : List ℕ) → b ≡ bit mask n → t' ≡ cond b (set t (32 * node + 2 * n) (get_or words n 0)) t → SoFar node mask words s t' (n + 1)
  word_more true t' e is = (
    λ k a c. ⊎_elim
        (λ (f : k ≡ n). rw (is, f) (get_or-set_same t (32 * node + 2 * n) (get_or words n 0) 0 in_row))
        (λ (f : k ≢ n). ap (λ (r : List ℕ). get_or r (32 * node + 2 * k) 0) is ∙ get_or-set_other t (32 * node + 2 * n) (32 * node + 2 * k) (get_or words n 0) 0 (λ o. f (omega arith)) ∙ h.0 k (omega arith) c)
        (cases_eq k n),
    λ x o. ap (λ (r : List ℕ). get_or r x 0) is ∙ get_or-set_other t (32 * node + 2 * n) x (get_or words n 0) 0 (o n (omega arith) (sym e)) ∙ h.1 x (λ k a. o k (omega arith)),
  )
  word_more false t' e is = (
    λ k a c. ⊎_elim
        (λ (f : k ≡ n). absurd (true≢false (sym c ∙ ap (bit mask) f ∙ sym e)))
        (λ (f : k ≢ n). ap (λ (r : List ℕ). get_or r (32 * node + 2 * k) 0) is ∙ h.0 k (omega arith) c)
        (cases_eq k n),
    λ x o. ap (λ (r : List ℕ). get_or r x 0) is ∙ h.1 x (λ k a. o k (omega arith)),
  )
