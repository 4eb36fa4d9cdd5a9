-- Every good list has a trie, proved: from one node of zeros, a route at a time. For the contract in src/lib.rt. Assumes nothing.
use Rattle.std.proofs.Common.{◌≡◌, ℕ, zero, suc, ◌+◌, ◌-◌, ◌*◌, ◌/◌, ◌^◌, ◌<◌, true, ◌≢◌, List, [], ◌∷◌, replicate, refl, ◌∙◌, arith}
use Rattle.std.proofs.lemmas.Nat.{shr_below}
use Rattle.std.proofs.lemmas.List.{get_or-replicate}
use Rattle.std.proofs.lemmas.Bool.Decides.{nat_tests}
use Rattle.prefix.specs.Routes.{Route, first, good_route, good, held}
use Rattle.prefix.specs.Map.{hops, set_at}
use Rattle.prefix.proofs.Good.{aligned}
use Rattle.prefix.proofs.Map.{hops_sized}
use Rattle.trie.specs.Places.{Apart}
use Rattle.trie.proofs.Descent.{looked_answer}
use Rattle.trie.proofs.Theorems.{empty, node_bound}
use Rattle.exists.specs.Exists.{HasTrie}
use Rattle.exists.proofs.Adding.{Served, add_long, add_none}

-- a list without its first route is good too
good_rest : (w : ℕ) (r : Route) (rs : List Route) → good w (r ∷ rs) ≡ true → good w rs ≡ true
unfolding good
good_rest w r rs g = grind (arith, nat_tests)

good_first : (w : ℕ) (r : Route) (rs : List Route) → good w (r ∷ rs) ≡ true → good_route w r ≡ true
unfolding good
good_first w r rs g = grind (arith, nat_tests)

-- the first route of a list changes the map of the others at its prefix
hops_first :
    (w : ℕ) (r : Route) (rs : List Route) (l q : ℕ) → good_route w r ≡ true
    → hops w (r ∷ rs) l q ≡ set_at (hops w rs) r.len (first w r.len r.bits) (suc r.hop) l q
unfolding hops held good_route
hops_first w r rs l q g =
    let a = aligned w r.len r.bits q in
    grind (arith, nat_tests)

-- only there
first_apart : (w : ℕ) (r : Route) (rs : List Route) → good_route w r ≡ true → Apart (hops w rs) (hops w (r ∷ rs)) r.len (first w r.len r.bits)
first_apart w r rs g a b n = hops_first w r rs a b g ∙ grind (arith, nat_tests)

-- and there it says something
first_there : (w : ℕ) (r : Route) (rs : List Route) → good_route w r ≡ true → hops w (r ∷ rs) r.len (first w r.len r.bits) ≢ 0
first_there w r rs g z =
    let e = hops_first w r rs r.len (first w r.len r.bits) g in
    grind (arith, nat_tests)

-- the trie of the others with the first route added
serve_more : (w len : ℕ) (r : Route) (rs : List Route) → r.len ≡ len → good w (r ∷ rs) ≡ true → Served w (hops w rs) → Served w (hops w (r ∷ rs))
serve_more w zero r rs e g s =
    add_none (hops w (r ∷ rs)) (first w r.len r.bits) (let a = first_apart w r rs (good_first w r rs g) in λ x y n. a x y (λ i j. n (i ∙ e) j)) s
serve_more w (suc len) r rs e g s =
    let f = good_first w r rs g in
    let there = first_there w r rs f in
    let fits = hops_sized w (r ∷ rs) r.len (first w r.len r.bits) g there in
    add_long (hops w (r ∷ rs)) r.len (first w r.len r.bits) (first_apart w r rs f) there (omega arith) fits.short fits.low s

serve : (w : ℕ) (rs : List Route) → 0 < w → good w rs ≡ true → Served w (hops w rs)
serve w [] some g =
    record { row = replicate 32 0; nodes = 1; whole = refl; trie = empty w (replicate 32 0) some (omega arith) (λ i l. get_or-replicate 32 i 0 0 l) }
serve w (r ∷ rs) some g = serve_more w r.len r rs refl g (serve w rs some (good_rest w r rs g))

-- the highest nibble of a key
high : (n x : ℕ) → 0 < n → x < 2 ^ (4 * n) → x / 2 ^ (4 * n - 4) < 16
high n x some l =
    let e : 4 + (4 * n - 4) ≡ 4 * n = omega arith in
    shr_below x 4 (4 * n - 4) (rw e l)

pub has_trie : HasTrie
has_trie n rs some g =
    let s = serve (4 * n) rs (omega arith) g in
    (s.row, s.nodes, s.whole, node_bound n rs s.row s.nodes s.trie, s.trie, λ x l. looked_answer rs g s.trie n x some refl (high n x some l))
