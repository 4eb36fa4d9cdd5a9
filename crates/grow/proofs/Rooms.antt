-- Why a row that was made for so many routes has room for each node of a way: with the node it would be a trie of places that the routes need. For the proof of `make_way`. Assumes nothing.
use Rattle.std.proofs.Common.{◌≡◌, ℕ, ◌+◌, ◌-◌, ◌*◌, ◌^◌, ◌<◌, ◌≤◌, cond, ◌&&◌, eqb, ◌≢◌, List, length, get_or, sym, ⊎_elim, arith}
use Rattle.std.proofs.lemmas.Bool.Decides.{nat_tests}
use Rattle.prefix.specs.Words.{width}
use Rattle.prefix.specs.Routes.{Route}
use Rattle.prefix.specs.Map.{Hops, hops}
use Rattle.trie.specs.Nodes.{said, goes}
use Rattle.trie.specs.Shape.{local, Deeper}
use Rattle.trie.specs.Places.{step, Along, Apart, Walk}
use Rattle.trie.proofs.Changes.{next_node}
use Rattle.trie.proofs.Places.{way_on, way_deeper, changed_deeper}
use Rattle.trie.proofs.Updates.{insert_link}
use Rattle.trie.proofs.Room.{room}
use Rattle.grow.specs.Ways.{Enough}

-- a map with one prefix more needs its way and all that the other map needs
pub along_needed : (m m' : Hops) (l q e d c : ℕ) → Apart m m' l q → m' l q ≢ 0 → Along m l q e d c → Deeper m' d c
along_needed m m' l q e d c apart n =
    ⊎_elim (λ y. ⊎_elim (λ z. z) (way_deeper m' l q d c n) (changed_deeper m' m l q d c (λ a b o. sym (apart a b o)) y)) (λ y. way_deeper m' l q d c n y.1)

-- the cells of a row with one node of zeros more, which cell (i, k) names
abbrev more_words : List ℕ → (count a b : ℕ) → ℕ
more_words t count a b = cond (eqb a count) 0 (said t a b)

abbrev more_links : List ℕ → (count i k a b : ℕ) → ℕ
more_links t count i k a b = cond (eqb a count) 0 (cond (eqb a i && eqb b k) count (goes t a b))

-- one node more, where the next of the way is missing, is not too many
pub next_fits :
    {w : ℕ} {m : Hops} {t : List ℕ} {count node : ℕ} (rs : List Route) (g l q d : ℕ) → w ≡ 4 * (g + 1)
    → Walk w (local m) (Along m l q d) l q d t count node → 4 * (d + 1) < l → l ≤ w → Apart m (hops w rs) l q → hops w rs l q ≢ 0
    → goes t node (step l q d) ≡ 0 → count + 1 ≤ g * length rs + 1
next_fits {w} {m} {t} {count} {node} rs g l q d e h long short apart n none =
    room rs g e (λ a b. along_needed m (hops w rs) l q (d + 1) a b apart n)
    (insert_link m l q d {S' = more_words t count} {G' = more_links t count node (step l q d)} node (step l q d) count h.held.shape (next_node count) h.here (omega arith) h.deep
    (way_on l q d _ h.way long) none short
    (λ a b al bl. grind (arith, nat_tests)) (λ a b al bl o. grind (arith, nat_tests)) (let here = h.here in grind (arith, nat_tests))
    (λ b bl. (grind (arith, nat_tests), grind (arith, nat_tests))))

-- so it has its place in the row, and its number can be written
pub next_room :
    {words : ℕ} {m : Hops} {t : List ℕ} {count node : ℕ} (rs : List Route) (l q d k : ℕ) → 0 < words
    → Walk (width words) (local m) (Along m l q d) l q d t count node → 4 * (d + 1) < l → l ≤ width words
    → Apart m (hops (width words) rs) l q → hops (width words) rs l q ≢ 0 → Enough words rs (length t) → k ≡ step l q d
    → get_or t (32 * node + (2 * k + 1)) 0 ≡ 0 → (32 * (count + 1) ≤ length t) × (count + 1 < 2 ^ 32)
unfolding goes
next_room {words} rs l q d k some h long short apart n enough e none =
    let f = next_fits rs (8 * words - 1) l q d (omega arith) h long short apart n (rw e at none) in
    (omega (arith, enough.long), omega (arith, enough.small))
