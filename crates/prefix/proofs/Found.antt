-- What going through a list finds, that a good list has one longest match, and what the scan does not see. For the laws. Assumes nothing.
use Rattle.std.proofs.Common.{◌≡◌, ℕ, suc, ◌<◌, ◌≤◌, true, false, ◌⊎◌, List, [], ◌∷◌, refl, inl, inr, arith}
use Rattle.std.proofs.lemmas.Bool.{cond_both}
use Rattle.std.proofs.lemmas.Bool.Decides.{nat_tests}
use Rattle.prefix.specs.Routes.{Route, matches, best, answer, good_route, same_prefix, good, put, away, In}
use Rattle.prefix.specs.Laws.{LongestMatch}
use Rattle.prefix.proofs.Good.{in_good, matches_bits}
use Rattle.prefix.proofs.Edits.{one_hop}

-- y is one more than the hop of a longest route that matches x and has at least long bits; or y is found, and each that matches has fewer
abbrev Found : ℕ → List Route → (x long found y : ℕ) → Type 0
Found w rs x long found y =
    ((e : Route) × In e rs × (matches w e x ≡ true) × (long ≤ e.len) × (y ≡ suc e.hop) × ((d : Route) → In d rs → matches w d x ≡ true → d.len ≤ e.len))
    ⊎ ((y ≡ found) × ((d : Route) → In d rs → matches w d x ≡ true → d.len < long))

-- one more route, which the scan takes or leaves
module _ (w x : ℕ) (r : Route) (rs : List Route) (long found y : ℕ) where
  taken : matches w r x ≡ true → long ≤ r.len → Found w rs x (suc r.len) (suc r.hop) y → Found w (r ∷ rs) x long found y
  taken m l (inl (e, i, me, le, ye, all)) = inl (e, inr i, me, omega arith, ye, λ d j md. grind arith)
  taken m l (inr (ye, all)) = inl (r, inl refl, m, l, ye, λ d j md. grind arith)

  left : (matches w r x ≡ true → r.len < long) → Found w rs x long found y → Found w (r ∷ rs) x long found y
  left n (inl (e, i, me, le, ye, all)) = inl (e, inr i, me, le, ye, λ d j md. grind arith)
  left n (inr (ye, all)) = inr (ye, λ d j md. grind arith)

best_found : (w : ℕ) (rs : List Route) (x long found : ℕ) → Found w rs x long found (best w rs x long found)
unfolding best
best_found w [] x long found = inr (refl, λ d i _. absurd i)
best_found w (r ∷ rs) x long found =
    cond_both _ _ _ (Found w (r ∷ rs) x long found)
    (λ t. taken w x r rs long found _ (grind (arith, nat_tests)) (grind (arith, nat_tests)) (best_found w rs x (suc r.len) (suc r.hop)))
    (λ f. left w x r rs long found _ (grind (arith, nat_tests)) (best_found w rs x long found))

from_found : (w : ℕ) (rs : List Route) (x y : ℕ) → Found w rs x 0 0 y → LongestMatch w rs x y
from_found w rs x y (inl (e, i, m, _, ye, all)) = inl (e, i, m, ye, all)
from_found w rs x y (inr (ye, none)) = inr (ye, λ d i. grind arith)

-- a list answers by the longest match
pub answer_found : (w : ℕ) (rs : List Route) (x : ℕ) → LongestMatch w rs x (answer w rs x)
unfolding answer
answer_found w rs x = from_found w rs x _ (best_found w rs x 0 0)

-- a good list has one longest match
pub one_answer : (w : ℕ) (rs : List Route) (x y z : ℕ) → good w rs ≡ true → LongestMatch w rs x y → LongestMatch w rs x z → y ≡ z
one_answer w rs x y z g (inl (e, i, me, ye, alle)) (inl (d, j, md, zd, alld)) =
    let l : d.len ≡ e.len = omega (arith, alle d j md, alld e i me) in
    let bd = matches_bits w d x (in_good w rs d g j) in
    let be = matches_bits w e x (in_good w rs e g i) in
    let same = one_hop w rs d e g j i l in
    grind (arith, nat_tests)
one_answer w rs x y z g (inl (e, i, me, ye, alle)) (inr (zd, none)) = let n = none e i in grind arith
one_answer w rs x y z g (inr (ye, none)) (inl (d, j, md, zd, alld)) = let n = none d j in grind arith
one_answer w rs x y z g (inr (ye, _)) (inr (zd, _)) = omega arith

-- a put that does not match is not seen
pub put_unseen : (w : ℕ) (r : Route) (rs : List Route) (x long found : ℕ) → matches w r x ≡ false → best w (put r rs) x long found ≡ best w rs x long found
unfolding best put same_prefix matches
put_unseen w r [] x long found n = grind (arith, nat_tests)
put_unseen w r (s ∷ ss) x long found n =
    let then = put_unseen w r ss x (suc s.len) (suc s.hop) in
    let else = put_unseen w r ss x long found in
    grind (arith, nat_tests)

-- nor is an away
pub away_unseen : (w : ℕ) (r : Route) (rs : List Route) (x long found : ℕ) → matches w r x ≡ false → best w (away r.len r.bits rs) x long found ≡ best w rs x long found
unfolding best away matches
away_unseen w r [] x long found n = refl
away_unseen w r (s ∷ ss) x long found n =
    let then = away_unseen w r ss x (suc s.len) (suc s.hop) in
    let else = away_unseen w r ss x long found in
    grind (arith, nat_tests)

-- nor in which order two prefixes were put: at the end of a list they are of two lengths, or do not both match
pub order_unseen : (w : ℕ) (r s : Route) (rs : List Route) (x long found : ℕ) → good_route w r ≡ true → good_route w s ≡ true → same_prefix r s ≡ false → best w (put r (put s rs)) x long found ≡ best w (put s (put r rs)) x long found
unfolding best put same_prefix
order_unseen w r s [] x long found gr gs n =
    let mr = matches_bits w r x gr in
    let ms = matches_bits w s x gs in
    grind (arith, nat_tests)
order_unseen w r s (e ∷ es) x long found gr gs n =
    let then = order_unseen w r s es x (suc e.len) (suc e.hop) in
    let else = order_unseen w r s es x long found in
    grind (arith, nat_tests)
