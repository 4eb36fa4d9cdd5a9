-- Keys are compared nibble by nibble.
use Rattle.std.proofs.Common.{◌≡◌, ℕ, ◌-◌, ◌/◌, ◌^◌, ◌≤◌, ◌≢◌, sym, ◌∙◌, arith}
use Rattle.prefix.specs.Words.{width}
use Rattle.prefix.proofs.Nibbles.{first_short, apart, together}
use Rattle.prefix.proofs.prefixes.+begins.Goals as goal

pub returns-then-len-lt4 : goal.returns-then-len-lt4
returns-then-len-lt4 g t c =
    let w : ℕ = width g.K.Key.words in
    let some = g.met.K.Key.some in
    let wide : 4 ≤ w = omega arith in
    let a = first_short w c.args.len (g.K.Key.num c.args.key) c.if-len-lt4.true wide in
    let b = first_short w c.args.len (g.K.Key.num c.args.bits) c.if-len-lt4.true wide in
    rw (a, b, c.nibble-a.ensures.value, c.nibble-b.ensures.value, c.behind-part.ensures)

pub returns-then-a-b : goal.returns-then-a-b
returns-then-a-b g t c =
    let w : ℕ = width g.K.Key.words in
    let ne : g.K.Key.num c.args.key / 2 ^ (w - 4) ≢ g.K.Key.num c.args.bits / 2 ^ (w - 4) = omega arith in
    sym (apart w c.args.len _ _ c.if-len-lt4.false c.requires ne)

pub returns : goal.returns
returns g t c =
    let w : ℕ = width g.K.Key.words in
    let e : g.K.Key.num c.args.key / 2 ^ (w - 4) ≡ g.K.Key.num c.args.bits / 2 ^ (w - 4) = omega arith in
    let on = together w c.args.len _ _ c.if-len-lt4.false c.requires e in
    c.begins.ensures ∙ rw (c.rest.ensures, c.rest-2.ensures) (sym on)
