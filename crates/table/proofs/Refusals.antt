-- Which refusal a route meets, and what the entry says then. Assumes nothing.
use Rattle.std.proofs.Common.{◌≡◌, ℕ, zero, suc, ◌<◌, ◌≤◌, true, false, List, [], ◌∷◌, ◌++◌, sym, refl, ◌∙◌, inl, inr, ⊎_elim, arith}
use Rattle.std.proofs.lemmas.Bool.Decides.{nat_tests}
use Rattle.prefix.specs.Routes.{Route, route_of, good_prefix, good_route, held, away, SameMembers}
use Rattle.prefix.proofs.Good.{in_good}
use Rattle.prefix.proofs.Good.{fine as whole}
use Rattle.prefix.proofs.Edits.{held_in}
use Rattle.table.specs.Right.{Right, room, listed}
use Rattle.table.specs.Changes.{PutDone, PutFull, AwayDone, AwayNone}
use Rattle.table.specs.Entries.{refusal, PutEntrySays, TakeAwaySays, ApplySays, PutEffect, Effect, Carried, CarriedOut}
use Rattle.table.specs.declared.entries.Done.{Done}
use Rattle.table.specs.declared.entries.Done.TheVariants.{Ready, Full, Without}
use Rattle.table.specs.declared.entries.Change.{Change}
use Rattle.table.specs.declared.entries.Change.TheVariants.{Put, Away}
use Rattle.table.proofs.Changing.{away_less}

pub no_prefix : (bits len hop : ℕ) → good_prefix 32 len bits ≡ false → refusal bits len hop ≡ 1
no_prefix bits len hop e = rw e

pub too_high : (bits len hop : ℕ) → good_prefix 32 len bits ≡ true → 65535 < hop → refusal bits len hop ≡ 2
too_high bits len hop e h = grind (arith, nat_tests)

pub fine : (bits len hop : ℕ) → good_prefix 32 len bits ≡ true → hop ≤ 65535 → refusal bits len hop ≡ 0
fine bits len hop e h = grind (arith, nat_tests)

-- a route that is not refused is good
pub fine_route : (b l bits len hop : ℕ) → b ≡ bits → l ≡ len → good_prefix 32 len bits ≡ true → hop ≤ 65535 → good_route 32 (route_of b l hop) ≡ true
unfolding good_route
fine_route b l bits len hop p q e h = rw (p, q) (grind (arith, nat_tests))

pub says_at : (n m : ℕ) (old new : List ℕ) (r : Route) (done : Done) → n ≡ m → PutEntrySays m old new r done → PutEntrySays n old new r done
says_at n m old new r done e s = rw e s

-- no route of a right table is longer than its keys
pub too_long : (len bits : ℕ) (row : List ℕ) → Right 1 row → 32 < len → away len bits (listed 1 row) ≡ listed 1 row
too_long len bits row r long = away_less len bits (listed 1 row) (go (held len bits (listed 1 row)) refl)
  where
    go : (h : ℕ) → held len bits (listed 1 row) ≡ h → held len bits (listed 1 row) ≡ 0
    go zero e = e
    go (suc h) e = absurd (omega (arith, (whole 32 (route_of bits len h) (in_good 32 (listed 1 row) (route_of bits len h) r.proper ((held_in 32 (route_of bits len h) (listed 1 row) r.proper).0 e))).short))

-- a change more of a row of changes
carried_more : (n : ℕ) (cs : List Change) (c : Change) (rs mid new : List Route) → Carried n cs rs mid → Effect n c mid new → Carried n (cs ++ c ∷ []) rs new
carried_more n [] c rs mid new e x = (new, rw (sym e) x, refl)
carried_more n (b ∷ bs) c rs mid new (m, y, more) x = (m, y, carried_more n bs c m mid new more x)

-- what the entries leave is the effect of a change
effect_put : (number : ℕ) (old new : List ℕ) (x : Route) (done : Done) → Right 1 old → PutEntrySays number old new x done → Right 1 new × (room new ≡ room old) × PutEffect number (room old) x (listed 1 old) (listed 1 new)
effect_put (suc n) old new x done r (reason, is, told, same) = rw same (r, refl, refl)
effect_put zero old new x done r says =
    ⊎_elim
    (λ (p : (done ≡ Ready) × PutDone 1 old new x). (p.1.right, p.1.space, inl p.1.members))
    (λ (p : (done ≡ Full) × PutFull 1 old new x). rw p.1.same (r, refl, inr (p.1.full, p.1.more, refl)))
    (says r)

effect_away : (old new : List ℕ) (len bits : ℕ) (done : Done) → Right 1 old → TakeAwaySays old new len bits done → Right 1 new × (room new ≡ room old) × SameMembers (listed 1 new) (away len bits (listed 1 old))
effect_away old new len bits done r says =
    ⊎_elim
    (λ (p : (done ≡ Ready) × AwayDone 1 old new len bits). (p.1.right, p.1.space, p.1.members))
    (λ (p : (done ≡ Without) × AwayNone 1 old new len bits). rw (p.1.same, p.1.none) (r, refl, record { onward = λ d i. i; back = λ d i. i }))
    (says r)

pub carried_on : (old mid new : List ℕ) (cs : List Change) (c : Change) (done : Done) → CarriedOut old mid cs → ApplySays mid new c done → CarriedOut old new (cs ++ c ∷ [])
carried_on old mid new cs (Put bits len hop) done k says =
    let e = effect_put (refusal bits len hop) mid new (route_of bits len hop) done k.right says in
    record { right = e.0; space = e.1 ∙ k.space; list = carried_more (room old) cs (Put bits len hop) _ _ _ k.list (rw k.space at e.2) }
carried_on old mid new cs (Away bits len) done k says =
    let e = effect_away mid new len bits done k.right says in
    record { right = e.0; space = e.1 ∙ k.space; list = carried_more (room old) cs (Away bits len) _ _ _ k.list e.2 }
