-- One step of going through a list. Assumes nothing.
use Rattle.std.proofs.Common.{◌≡◌, ℕ, suc, Bool, true, false, cond, ◌&&◌, ltb, List, ◌∷◌, refl}
use Rattle.prefix.specs.Routes.{Route, matches, best}

pick_both : (w x : ℕ) (rs : List Route) (t : Bool) (a b p q : ℕ) → cond t (best w rs x a p) (best w rs x b q) ≡ best w rs x (cond t a b) (cond t p q)
pick_both w x rs true a b p q = refl
pick_both w x rs false a b p q = refl

pub best_more : (w : ℕ) (r : Route) (rs : List Route) (x long found long' found' : ℕ) → long' ≡ cond (matches w r x && ltb long (suc r.len)) (suc r.len) long
    → found' ≡ cond (matches w r x && ltb long (suc r.len)) (suc r.hop) found
    → best w (r ∷ rs) x long found ≡ best w rs x long' found'
unfolding best
best_more w r rs x long found long' found' p q = rw (p, q) (pick_both w x rs (matches w r x && ltb long (suc r.len)) _ _ _ _)
