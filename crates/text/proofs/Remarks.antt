-- Lines that are passed over, and lines that are not, for the proof of `read`. Assumes nothing.
use Rattle.std.proofs.Common.{◌≡◌, ℕ, List, [], ◌∷◌, length, get_or, Some, refl, arith}
use Rattle.std.specs.Option.{option_map}
use Rattle.std.proofs.lemmas.Bool.{eq-eqb, ne_eqb}
use Rattle.text.specs.declared.lines.Line.TheVariants.{Blank, Command as Asks}
use Rattle.text.specs.Commands.{ordered, reads}

pub blank_empty : (bs : List ℕ) → length bs ≡ 0 → Some Blank ≡ reads bs
unfolding reads
blank_empty [] h = refl
blank_empty (b ∷ bs) h = absurd (omega arith)

pub blank_remark : (bs : List ℕ) → get_or bs 0 0 ≡ 35 → Some Blank ≡ reads bs
unfolding reads
blank_remark [] h = refl
blank_remark (b ∷ bs) h = rw (eq-eqb b 35 h)

pub reads_else : (bs : List ℕ) → (length bs ≡ 0 → ⊥) → (get_or bs 0 0 ≡ 35 → ⊥) → reads bs ≡ option_map Asks (ordered bs)
unfolding reads
reads_else [] h n = absurd (h refl)
reads_else (b ∷ bs) h n = rw (ne_eqb b 35 n)
