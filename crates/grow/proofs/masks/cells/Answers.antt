-- The cells of a prefix, by its last nibble.
use Rattle.std.proofs.Common.{◌≡◌, ℕ, ◌+◌, ◌-◌, ◌*◌, ◌/◌, ◌%◌, ◌^◌, eqb, ap, ◌∙◌, arith}
use Rattle.grow.specs.Ways.{depth_of}
use Rattle.grow.proofs.Ahead.{ahead_start}
use Rattle.grow.proofs.Covered.{ending_cells}
use Rattle.grow.proofs.masks.cells.Goals as goal

pub returns : goal.returns
returns g c =
    let l : ℕ = c.args.prefix.len in
    let nibble : ℕ = c.last_nibble-nibble.result in
    let r : 4 - ((l - 1) % 4 + 1) ≡ 4 * depth_of l + 4 - l = omega arith in
    record {
      bits =
          λ some short.
          ending_cells l _ (depth_of l) _ nibble (omega arith) (omega arith)
          (c.last_nibble-nibble.ensures.ends _ _ 0 (ahead_start _ _ _ some short c.last_nibble-nibble.ensures.small))
          (λ k h. c.covered.ensures.bits k h ∙ ap (λ (x : ℕ). eqb (k / 2 ^ x) (nibble / 2 ^ x)) r);
      count = λ some short. c.covered.ensures.count ∙ ap (λ (x : ℕ). 2 ^ x) r;
      none = λ e. absurd (c.if-prefix-eq0.false e);
      long = λ h. absurd (omega (arith, c.words.ensures));
    }
