-- The laws, proved: what src/laws.rt cites. Assumes nothing.
use Rattle.std.proofs.Common.{ℕ, List, sym, refl, inl, inr}
use Rattle.prefix.specs.Routes.{Route, matches, best, answer, good_prefix, good_route, same_prefix, absent, good, SameMembers}
use Rattle.prefix.specs.Laws.{LongestMatch, Longest, AnyOrder, StillGood, OnlyThere, Undone, EitherOrder, ByMap, Worked}
use Rattle.prefix.proofs.Good.{good_put, good_away}
use Rattle.prefix.proofs.Edits.{away_put, restored}
use Rattle.prefix.proofs.Found.{answer_found, one_answer, put_unseen, away_unseen, order_unseen}
use Rattle.prefix.proofs.Map.{answer_longest}

pub the_longest : Longest
the_longest = answer_found

-- a longest match of a list is one of any list with the same members
moved : (w : ℕ) (rs ss : List Route) (x y : ℕ) → SameMembers rs ss → LongestMatch w ss x y → LongestMatch w rs x y
moved w rs ss x y same (inl (e, i, m, ye, all)) = inl (e, same.back e i, m, ye, λ d j. all d (same.onward d j))
moved w rs ss x y same (inr (ye, none)) = inr (ye, λ d j. none d (same.onward d j))

pub any_order : AnyOrder
any_order w rs ss x g same = one_answer w rs x _ _ g (answer_found w rs x) (moved w rs ss x _ same (answer_found w ss x))

pub still_good : StillGood
still_good w rs g = (λ r gr. good_put w r rs gr g, λ len bits. good_away w len bits rs g)

pub only_there : OnlyThere
unfolding answer
only_there w r rs x n = (put_unseen w r rs x 0 0 n, away_unseen w r rs x 0 0 n)

pub undone : Undone
undone w r rs x g =
    let again = sym (any_order w rs _ x g (restored w _ r.len r.bits rs g refl)) in
    (rw (away_put r rs) again, again)

pub either_order : EitherOrder
unfolding answer
either_order w r s rs x = order_unseen w r s rs x 0 0

pub by_map : ByMap
by_map = answer_longest

pub worked : Worked
unfolding good good_route good_prefix absent same_prefix answer best matches
worked = (refl, refl, refl, refl)
