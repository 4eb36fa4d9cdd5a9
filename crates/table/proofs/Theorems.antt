-- The laws of right tables, from those of lists. Assumes nothing.
use Rattle.std.proofs.Common.{◌≡◌, ℕ, ◌^◌, ◌<◌, List, sym, ◌∙◌, ⊎_elim}
use Rattle.prefix.specs.Words.{width}
use Rattle.prefix.specs.Routes.{Route, answer, put, away, held, SameMembers}
use Rattle.prefix.specs.Laws.{restore}
use Rattle.prefix.proofs.Theorems.{any_order, only_there, undone}
use Rattle.table.specs.Right.{Right, listed}
use Rattle.table.specs.Answers.{answers}
use Rattle.table.specs.Laws.{OrderFree, MattersOnlyThere, UndoneByInverse}
use Rattle.table.proofs.Means.{right_means}

-- what a right table answers is what any list of the same members does
as_list : (words : ℕ) (row : List ℕ) (x : ℕ) → 0 < words → x < 2 ^ width words → Right words row → answers words row x ≡ answer (width words) (listed words row) x
as_list words row x pos low r = (right_means words row pos r).0 x low

as_any : (words : ℕ) (row : List ℕ) (rs : List Route) (x : ℕ) → 0 < words → x < 2 ^ width words → Right words row → SameMembers (listed words row) rs → answers words row x ≡ answer (width words) rs x
as_any words row rs x pos low r same = as_list words row x pos low r ∙ any_order (width words) (listed words row) rs x r.proper same

pub order_free : OrderFree
order_free words row row' x pos low r r' same = as_any words row (listed words row') x pos low r same ∙ sym (as_list words row' x pos low r')

pub matters_only_there : MattersOnlyThere
matters_only_there words row row' p x pos low r r' off =
    ⊎_elim
    (λ (same : SameMembers (listed words row') (put p (listed words row))). as_any words row' _ x pos low r' same ∙ (only_there (width words) p (listed words row) x off).0 ∙ sym (as_list words row x pos low r))
    (λ (same : SameMembers (listed words row') (away p.len p.bits (listed words row))). as_any words row' _ x pos low r' same ∙ (only_there (width words) p (listed words row) x off).1 ∙ sym (as_list words row x pos low r))

pub undone_by_inverse : UndoneByInverse
undone_by_inverse words row row' p x pos low r r' =
    ⊎_elim
    (λ (same : SameMembers (listed words row') (restore (held p.len p.bits (listed words row)) p.len p.bits (away p.len p.bits (put p (listed words row))))).
    as_any words row' _ x pos low r' same ∙ (undone (width words) p (listed words row) x r.proper).0 ∙ sym (as_list words row x pos low r))
    (λ (same : SameMembers (listed words row') (restore (held p.len p.bits (listed words row)) p.len p.bits (away p.len p.bits (listed words row)))).
    as_any words row' _ x pos low r' same ∙ (undone (width words) p (listed words row) x r.proper).1 ∙ sym (as_list words row x pos low r))
