-- All 32 bits moved down by a length are one less than a power of two.
use Rattle.std.proofs.Common.{◌≡◌, ℕ, suc, ◌+◌, ◌-◌, ◌*◌, ◌/◌, ◌%◌, ◌^◌, ◌<◌, sym, ◌∙◌, ap, arith}
use Rattle.std.proofs.lemmas.Nat.{pow-add, pow_pos}
use Rattle.std.proofs.Math.Nat.{div-eq_of_lt-le, suc-mul}
use Rattle.trials.proofs.ends.behind.Goals as goal

quotient : (r p n : ℕ) → 0 < p → suc r * p ≡ suc n → n / p ≡ r
quotient r p n h e =
    let whole : r * p + p ≡ suc n = sym (suc-mul r p) ∙ e in
    div-eq_of_lt-le p (omega arith) (omega arith)

moved : (len : ℕ) → len < 32 → 4294967295 / 2 ^ len ≡ 2 ^ (32 - len) - 1
moved len h =
    let back : suc (2 ^ (32 - len) - 1) ≡ 2 ^ (32 - len) = omega (arith, pow_pos (32 - len)) in
    let all : 32 - len + len ≡ 32 = omega arith in
    quotient (2 ^ (32 - len) - 1) (2 ^ len) 4294967295 (pow_pos len) (ap (λ n. n * 2 ^ len) back ∙ (sym (pow-add 2 (32 - len) len) ∙ ap (λ n. 2 ^ n) all))

pub returns-then-len-lt32 : goal.returns-then-len-lt32
returns-then-len-lt32 c =
    let low : c.args.len % 32 ≡ c.args.len = omega arith in
    c.wrapping_shr.ensures ∙ (ap (λ n. 4294967295 / 2 ^ n) low ∙ moved c.args.len c.if-len-lt32.true)
