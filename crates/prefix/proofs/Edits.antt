-- What a list holds, and which routes stand in it, before and after put and away. For the laws and for the crates above. Assumes nothing.
use Rattle.std.proofs.Common.{◌≡◌, ℕ, zero, suc, true, false, cond, ◌&&◌, eqb, ◌⊎◌, ◌↔◌, List, [], ◌∷◌, refl, arith}
use Rattle.std.proofs.lemmas.Bool.Decides.{nat_tests}
use Rattle.prefix.specs.Routes.{Route, same_prefix, absent, good, put, away, held, In, SameMembers}
use Rattle.prefix.specs.Laws.{restore}
use Rattle.prefix.proofs.Good.{absent_in, good_away}

same_route : (d e : Route) → d.bits ≡ e.bits → d.len ≡ e.len → d.hop ≡ e.hop → d ≡ e
same_route d e b l h =
    let route : ℕ → ℕ → ℕ → Route = λ b l h. record { bits = b; len = l; hop = h } in
    let same : route d.bits d.len d.hop ≡ route e.bits e.len e.hop = cc in
    same

-- a good list holds of a prefix just what its route says
pub held_in : (w : ℕ) (r : Route) (rs : List Route) → good w rs ≡ true → (held r.len r.bits rs ≡ suc r.hop) ↔ In r rs
unfolding held good same_prefix
held_in w r [] g = grind (arith, nat_tests)
held_in w r (s ∷ ss) g =
    let ih = held_in w r ss in
    let same = same_route r s in
    let other = absent_in s r ss in
    grind (arith, nat_tests)

-- a good list has one route of a prefix
pub one_hop : (w : ℕ) (rs : List Route) (d e : Route) → good w rs ≡ true → In d rs → In e rs → d.len ≡ e.len → d.bits ≡ e.bits → d.hop ≡ e.hop
one_hop w rs d e g i j l b = let at-d = held_in w d rs in let at-e = held_in w e rs in grind arith

-- held after put
pub held_put : (len bits : ℕ) (r : Route) (rs : List Route) → held len bits (put r rs) ≡ cond (eqb r.len len && eqb r.bits bits) (suc r.hop) (held len bits rs)
unfolding held put same_prefix
held_put len bits r [] = refl
held_put len bits r (s ∷ ss) = let ih = held_put len bits r ss in grind (arith, nat_tests)

held_absent : (r : Route) (rs : List Route) → absent r rs ≡ true → held r.len r.bits rs ≡ 0
unfolding held absent same_prefix
held_absent r [] a = refl
held_absent r (s ∷ ss) a = let ih = held_absent r ss in grind (arith, nat_tests)

-- held after away
pub held_away : (w l b len bits : ℕ) (rs : List Route) → good w rs ≡ true → held l b (away len bits rs) ≡ cond (eqb len l && eqb bits b) 0 (held l b rs)
unfolding held away good
held_away w l b len bits [] g = grind (arith, nat_tests)
held_away w l b len bits (s ∷ ss) g =
    let ih = held_away w l b len bits ss in
    let none = held_absent s ss in
    grind (arith, nat_tests)

-- what stands in a list after put
pub put_members : (w : ℕ) (r d : Route) (rs : List Route) → good w rs ≡ true → In d (put r rs) ↔ ((d ≡ r) ⊎ (In d rs × (same_prefix r d ≡ false)))
unfolding put good same_prefix
put_members w r d [] g = grind (arith, nat_tests)
put_members w r d (s ∷ ss) g =
    let ih = put_members w r d ss in
    let other = absent_in s d ss in
    grind (arith, nat_tests)

-- what stands in a list after away
pub away_members : (w len bits : ℕ) (d : Route) (rs : List Route) → good w rs ≡ true → In d (away len bits rs) ↔ (In d rs × ((eqb d.len len && eqb d.bits bits) ≡ false))
unfolding away good same_prefix
away_members w len bits d [] g = grind (arith, nat_tests)
away_members w len bits d (s ∷ ss) g =
    let ih = away_members w len bits d ss in
    let other = absent_in s d ss in
    grind (arith, nat_tests)

-- of a put that is taken away nothing is left
pub away_put : (r : Route) (rs : List Route) → away r.len r.bits (put r rs) ≡ away r.len r.bits rs
unfolding away put same_prefix
away_put r [] = grind (arith, nat_tests)
away_put r (s ∷ ss) = let ih = away_put r ss in grind (arith, nat_tests)

members : (rs ss : List Route) → ((d : Route) → In d rs ↔ In d ss) → SameMembers rs ss
members rs ss same = record { onward = λ d. (same d).0; back = λ d. (same d).1 }

-- a prefix taken away and put back as it was held: the members are as before
pub restored : (w was len bits : ℕ) (rs : List Route) → good w rs ≡ true → held len bits rs ≡ was → SameMembers rs (restore was len bits (away len bits rs))
unfolding same_prefix
restored w zero len bits rs g h =
    members rs _ (λ d. let out = away_members w len bits d rs in let at = held_in w d rs in grind (arith, nat_tests))
restored w (suc hop) len bits rs g h =
    let r : Route = record { bits = bits; len = len; hop = hop } in
    members rs _ (λ d.
    let out = away_members w len bits d rs in
    let into = put_members w r d (away len bits rs) (good_away w len bits rs g) in
    let same = same_route d r in
    let at-d = held_in w d rs in
    let at-r = held_in w r rs in
    grind (arith, nat_tests))
