-- The bits behind a length are gone through nibble by nibble.
use Rattle.std.proofs.Common.{ℕ, ◌≤◌, refl, ◌∙◌, arith}
use Rattle.std.proofs.lemmas.Bool.{eq-eqb, ne_eqb}
use Rattle.prefix.specs.Words.{width}
use Rattle.prefix.proofs.Nibbles.{zero_short, zero_long, fits_width}
use Rattle.prefix.proofs.prefixes.+zero_behind.Goals as goal

pub returns-then-high-behind-eq0 : goal.returns-then-high-behind-eq0
returns-then-high-behind-eq0 g t c =
    let some = g.met.K.Key.some in
    let x : ℕ = g.K.Key.num c.args.bits in
    let wide : 4 ≤ width g.K.Key.words = omega arith in
    let e = zero_short (width g.K.Key.words) c.args.len x _ _ _ c.if-len-lt4.true wide c.nibble-high.ensures.value c.behind.ensures c.rest.ensures in
    let zero = eq-eqb _ _ c.if-high-behind-eq0.true in
    record { small = fits_width _ x wide (omega arith); value = c.is_zero.ensures ∙ (rw zero at e) }

pub returns-else-high-behind-eq0 : goal.returns-else-high-behind-eq0
returns-else-high-behind-eq0 g t c =
    let some = g.met.K.Key.some in
    let x : ℕ = g.K.Key.num c.args.bits in
    let wide : 4 ≤ width g.K.Key.words = omega arith in
    let e = zero_short (width g.K.Key.words) c.args.len x _ _ _ c.if-len-lt4.true wide c.nibble-high.ensures.value c.behind.ensures refl in
    let some_left = ne_eqb _ _ c.if-high-behind-eq0.false in
    record { small = fits_width _ x wide (omega arith); value = some_left ∙ (rw some_left at e) }

pub returns : goal.returns
returns g t c =
    let some = g.met.K.Key.some in
    let x : ℕ = g.K.Key.num c.args.bits in
    let wide : 4 ≤ width g.K.Key.words = omega arith in
    let e = zero_long (width g.K.Key.words) c.args.len x c.if-len-lt4.false c.requires in
    record { small = fits_width _ x wide (omega arith); value = c.zero_behind.ensures.value ∙ rw c.rest-2.ensures e }
