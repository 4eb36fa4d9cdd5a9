-- What writes to a row do to its cells. For crates that change tries. Assumes nothing.
use Rattle.std.proofs.Common.{◌≡◌, ℕ, ◌+◌, ◌*◌, ◌<◌, List, length, get_or, set, arith}
use Rattle.std.proofs.lemmas.List.{get_or-set_same, get_or-set_other}
use Rattle.trie.specs.Nodes.{said, goes}

-- cells at one place of the row are one
one_place : (a b i k : ℕ) → b < 16 → k < 16 → 32 * a + 2 * b ≡ 32 * i + 2 * k → (a ≡ i) × (b ≡ k)
one_place a b i k h l e = let s : a ≡ i = omega arith in (s, omega arith)

module _ (t : List ℕ) (i k v : ℕ) (small : k < 16) where
  -- the first number of a cell is written
  pub word_here : 32 * i + 2 * k < length t → said (set t (32 * i + 2 * k) v) i k ≡ v
  unfolding said
  word_here l = get_or-set_same t (32 * i + 2 * k) v 0 l

  pub word_else : (a b : ℕ) → b < 16 → (a ≡ i → b ≡ k → ⊥) → said (set t (32 * i + 2 * k) v) a b ≡ said t a b
  unfolding said
  word_else a b h n = get_or-set_other t (32 * i + 2 * k) (32 * a + 2 * b) v 0 (λ e. let s = one_place a b i k h small (omega arith) in n s.0 s.1)

  pub word_links : (a b : ℕ) → goes (set t (32 * i + 2 * k) v) a b ≡ goes t a b
  unfolding goes
  word_links a b = get_or-set_other t (32 * i + 2 * k) (32 * a + (2 * b + 1)) v 0 (λ e. omega arith)

  -- the second number of a cell is written
  pub link_here : 32 * i + (2 * k + 1) < length t → goes (set t (32 * i + (2 * k + 1)) v) i k ≡ v
  unfolding goes
  link_here l = get_or-set_same t (32 * i + (2 * k + 1)) v 0 l

  pub link_else : (a b : ℕ) → b < 16 → (a ≡ i → b ≡ k → ⊥) → goes (set t (32 * i + (2 * k + 1)) v) a b ≡ goes t a b
  unfolding goes
  link_else a b h n = get_or-set_other t (32 * i + (2 * k + 1)) (32 * a + (2 * b + 1)) v 0 (λ e. let s = one_place a b i k h small (omega arith) in n s.0 s.1)

  pub link_words : (a b : ℕ) → said (set t (32 * i + (2 * k + 1)) v) a b ≡ said t a b
  unfolding said
  link_words a b = get_or-set_other t (32 * i + (2 * k + 1)) (32 * a + 2 * b) v 0 (λ e. omega arith)

-- a node of one row has the numbers of a node of another, as after a copy
pub same_node : (t t' : List ℕ) (a j : ℕ) → ((y : ℕ) → y < 32 → get_or t' (32 * j + y) 0 ≡ get_or t (32 * a + y) 0) → (b : ℕ) → b < 16 → (said t' j b ≡ said t a b) × (goes t' j b ≡ goes t a b)
unfolding said goes
same_node t t' a j h b s = (h (2 * b) (omega arith), h (2 * b + 1) (omega arith))

-- a node of zeros
pub blank_node : (t : List ℕ) (j : ℕ) → ((y : ℕ) → y < 32 → get_or t (32 * j + y) 0 ≡ 0) → (b : ℕ) → b < 16 → (said t j b ≡ 0) × (goes t j b ≡ 0)
unfolding said goes
blank_node t j h b s = (h (2 * b) (omega arith), h (2 * b + 1) (omega arith))
