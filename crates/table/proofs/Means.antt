-- What a right table is in plain words. Assumes nothing.
use Rattle.std.proofs.Common.{◌≡◌, ℕ, ◌+◌, ◌-◌, ◌*◌, ◌/◌, ◌^◌, ◌<◌, ◌≤◌, ◌≢◌, List, length, ◌∙◌, ⊎_elim, arith}
use Rattle.std.proofs.lemmas.Nat.{shr_below, mul-le}
use Rattle.std.proofs.lemmas.List.{length-drop}
use Rattle.std.proofs.lemmas.Bool.{cases_eq}
use Rattle.prefix.specs.Words.{width}
use Rattle.prefix.specs.Map.{Hops}
use Rattle.routes.proofs.Lists.{length_routes}
use Rattle.routes.proofs.Slots.{count_low}
use Rattle.trie.specs.Nodes.{goes}
use Rattle.trie.proofs.Descent.{looked_answer}
use Rattle.trie.proofs.Theorems.{room_enough}
use Rattle.table.specs.Right.{Mapped, stride, room, most_nodes, default_at, listed, nodes, trie}
use Rattle.table.specs.Answers.{RightMeans}

-- a right table has no more routes than room
pub routes_fit : (words : ℕ) (row : List ℕ) (m : Hops) → Mapped words row m → length (listed words row) ≤ room row
routes_fit words row m r = let n = length_routes words (stride words) row in let l = count_low words (stride words) row in omega (arith, r.fewer)

-- and its row has space for the nodes of as many
pub nodes_fit : (words : ℕ) (row : List ℕ) (m : Hops) → Mapped words row m → (32 * ((8 * words - 1) * length (listed words row) + 1) ≤ length (trie words row)) × ((8 * words - 1) * length (listed words row) + 1 < 2 ^ 32)
nodes_fit words row m r =
    let few = mul-le (8 * words - 1) (length (listed words row)) (8 * words) (room row) (omega arith) (routes_fit words row m r) in
    let long : length (trie words row) ≡ 32 * most_nodes words (room row) = length-drop (default_at words (room row) + 2) row ∙ omega (arith, r.long) in
    (omega arith, omega (arith, r.small))

pub right_means : RightMeans
right_means words row pos r = (
  λ x low.
      let whole : 4 + (width words - 4) ≡ width words = omega arith in
      let high : x / 2 ^ (width words - 4) < 2 ^ 4 = shr_below x 4 (width words - 4) (rw whole low) in
      rw r.default_is (looked_answer (listed words row) r.proper r.trie_is (8 * words) x (omega arith) (omega arith) high),
  λ i k il kl. ⊎_elim (λ (z : goes (trie words row) i k ≡ 0). omega (arith, r.trie_is.shape.root)) (λ (n : goes (trie words row) i k ≢ 0). (r.trie_is.shape.goes_on i k il kl n).live) (cases_eq (goes (trie words row) i k) 0),
  room_enough words (room row) (listed words row) (trie words row) (nodes words row) pos (routes_fit words row _ r) r.trie_is,
)
