-- What holds of right tables and their changes, over any width: statements, each the contract of a function. Assumes nothing: these are definitions.
use Rattle.std.specs.Prelude.{◌≡◌, ℕ, ◌^◌, ◌<◌, false, ◌⊎◌, List}
use Rattle.prefix.specs.Words.{width}
use Rattle.prefix.specs.Routes.{Route, matches, put, away, held, SameMembers}
use Rattle.prefix.specs.Laws.{restore}
use Rattle.table.specs.Right.{Right, listed}
use Rattle.table.specs.Answers.{answers}

-- the order in which routes came does not matter to any answer
abbrev pub OrderFree : Type 0
OrderFree =
    (words : ℕ) (row row' : List ℕ) (x : ℕ) → 0 < words → x < 2 ^ width words → Right words row → Right words row'
    → SameMembers (listed words row) (listed words row') → answers words row x ≡ answers words row' x

-- a change matters to no key that does not begin so
abbrev pub MattersOnlyThere : Type 0
MattersOnlyThere =
    (words : ℕ) (row row' : List ℕ) (r : Route) (x : ℕ) → 0 < words → x < 2 ^ width words → Right words row → Right words row' → matches (width words) r x ≡ false
    → SameMembers (listed words row') (put r (listed words row)) ⊎ SameMembers (listed words row') (away r.len r.bits (listed words row))
    → answers words row' x ≡ answers words row x

-- a change is undone by its inverse: what was put is taken away, and what was held before is put back
abbrev pub UndoneByInverse : Type 0
UndoneByInverse =
    (words : ℕ) (row row' : List ℕ) (r : Route) (x : ℕ) → 0 < words → x < 2 ^ width words → Right words row → Right words row'
    → SameMembers (listed words row') (restore (held r.len r.bits (listed words row)) r.len r.bits (away r.len r.bits (put r (listed words row))))
    ⊎ SameMembers (listed words row') (restore (held r.len r.bits (listed words row)) r.len r.bits (away r.len r.bits (listed words row)))
    → answers words row' x ≡ answers words row x
