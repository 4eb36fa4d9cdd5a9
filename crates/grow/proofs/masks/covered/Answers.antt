-- The mask of the nibbles that begin alike: five lengths and sixteen nibbles, each computed.
use Rattle.std.proofs.Common.{◌≡◌, ℕ, ◌-◌, ◌*◌, ◌/◌, ◌%◌, ◌^◌, ◌<◌, Bool, T, eqb, ltb, sym, ap, ◌∙◌, add-zero, arith, eqb→eq, ltb→lt, pow_pos}
use lib.Count.{ones, ones_cat, ones-ones}
use Rattle.grow.specs.Cells.{bit}
use Rattle.grow.proofs.Tables.{all, at, at_both, same, same_eq}
use Rattle.grow.proofs.masks.covered.Goals as goal

-- what the code computes
abbrev many : (len : ℕ) → ℕ
many len = (1 * 2 ^ (4 - len)) % 4294967296

abbrev mask : (len nibble : ℕ) → ℕ
mask len nibble = (((1 * 2 ^ many len) % 4294967296 - 1) * 2 ^ (nibble / many len * many len)) % 4294967296

-- ones that stand together, and nothing behind
abbrev block : (len nibble : ℕ) → ℕ
block len nibble = (2 ^ 2 ^ (4 - len) - 1) * 2 ^ (nibble / 2 ^ (4 - len) * 2 ^ (4 - len))

right_bits : (len nibble : ℕ) → Bool
right_bits len nibble = all (λ k. same (bit (mask len nibble) k) (eqb (k / 2 ^ (4 - len)) (nibble / 2 ^ (4 - len)))) 16

bits_all : (len nibble : ℕ) → len < 5 → nibble < 16 → T (right_bits len nibble)
unfolding right_bits
bits_all = at_both right_bits 5 16 tt

block_all : (len nibble : ℕ) → len < 5 → nibble < 16 → mask len nibble ≡ block len nibble
block_all len nibble a b = eqb→eq (mask len nibble) (block len nibble) (at_both (λ i n. eqb (mask i n) (block i n)) 5 16 tt len nibble a b)

small_all : (len nibble : ℕ) → len < 5 → nibble < 16 → T (ltb (mask len nibble) 65536)
small_all = at_both (λ i n. ltb (mask i n) 65536) 5 16 tt

ones_block : (n k : ℕ) → ones ((2 ^ n - 1) * 2 ^ k) ≡ n
unfolding ones
ones_block n k = ap ones (sym (add-zero ((2 ^ n - 1) * 2 ^ k))) ∙ ones_cat k (2 ^ n - 1) 0 (pow_pos k) ∙ add-zero (ones (2 ^ n - 1)) ∙ ones-ones n

pub overflow_shl-result : goal.overflow_shl-result
overflow_shl-result c = ltb→lt (many c.args.len) 32 (at (λ i. ltb (many i) 32) 5 tt c.args.len (omega arith))

pub overflow_sub-result : goal.overflow_sub-result
overflow_sub-result c = ltb→lt 0 ((1 * 2 ^ many c.args.len) % 4294967296) (at (λ i. ltb 0 ((1 * 2 ^ many i) % 4294967296)) 5 tt c.args.len (omega arith))

pub overflow_cast-result : goal.overflow_cast-result
overflow_cast-result c = record { fits = ltb→lt (mask c.args.len c.args.nibble) 65536 (small_all c.args.len c.args.nibble (omega arith) c.requires.0) }

pub returns : goal.returns
unfolding right_bits
returns c =
    let len : ℕ = c.args.len in
    let nibble : ℕ = c.args.nibble in
    record {
      bits = λ k h. same_eq _ _ (at (λ n. same (bit (mask len nibble) n) (eqb (n / 2 ^ (4 - len)) (nibble / 2 ^ (4 - len)))) 16 (bits_all len nibble (omega arith) c.requires.0) k h);
      count = ap ones (block_all len nibble (omega arith) c.requires.0) ∙ ones_block (2 ^ (4 - len)) (nibble / 2 ^ (4 - len) * 2 ^ (4 - len));
    }
