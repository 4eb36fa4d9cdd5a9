-- One route inserted into the trie of none, by the steps of an update: that these fit together, and that a trie of a route is there. For the theorems, and as an example of an update. Assumes nothing.
use Rattle.std.proofs.Common.{◌≡◌, ℕ, zero, suc, ◌+◌, ◌*◌, ◌/◌, ◌<◌, List, [], set, replicate, refl, ◌∙◌, arith}
use Rattle.std.proofs.lemmas.List.{get_or-replicate, get_or-set_other}
use Rattle.std.proofs.lemmas.Bool.Decides.{nat_tests}
use Rattle.prefix.specs.Routes.{good_prefix, good_route, put, held}
use Rattle.prefix.specs.Map.{hops, set_at}
use Rattle.prefix.proofs.Map.{hops_put}
use Rattle.trie.specs.Nodes.{said, goes, nibbles, looked}
use Rattle.trie.specs.Shape.{local, Shape, TrieOf}
use Rattle.trie.specs.Places.{Along, Covers, Apart}
use Rattle.trie.specs.Theorems.{one_route, two_nodes, Worked}
use Rattle.trie.proofs.Changes.{but, next_node}
use Rattle.trie.proofs.Updates.{Renewed, insert_start, insert_link, insert_words}
use Rattle.trie.proofs.Rows.{word_else, word_links, link_else, link_words, blank_node}
use Rattle.trie.proofs.Theorems.{empty}

-- the row before, and with the link
abbrev zeros : List ℕ
zeros = replicate 64 0

abbrev linked : List ℕ
linked = set zeros 1 1

-- the two maps differ at the route's prefix
apart : Apart (hops 32 []) (hops 32 one_route) 8 10
unfolding put good_route good_prefix
apart a b n =
    let e : hops 32 one_route a b ≡ set_at (hops 32 []) 8 10 2 a b = hops_put 32 _ [] a b refl in
    e ∙ grind (arith, nat_tests)

module _ (t : TrieOf 32 (hops 32 []) zeros 1) where
  -- where the nodes hang then
  D : ℕ → ℕ
  D = but t.depth 1 (t.depth 0 + 1)

  Q : ℕ → ℕ
  Q = but t.path 1 (16 * t.path 0 + 0)

  -- node 1 is linked
  with_way : Shape 32 (local (hops 32 [])) (Along (hops 32 []) 8 10 1) (said linked) (goes linked) (λ i. i < 2) D Q
  unfolding D Q goes
  with_way =
      insert_link (hops 32 []) 8 10 0 0 0 1 (insert_start (hops 32 []) 8 10 0 t.shape) (next_node 1) t.shape.root (omega arith) t.shape.top.0
      record { long = omega arith; begins = omega (arith, t.shape.top.1) } refl (omega arith)
      (λ a b l h. link_words zeros 0 0 1 (omega arith) a b) (λ a b l h n. link_else zeros 0 0 1 (omega arith) a b h n) refl
      (λ b h. blank_node linked 1 (λ y l. get_or-set_other zeros 1 (32 + y) 1 0 (λ e. omega arith) ∙ get_or-replicate 64 (32 + y) 0 0 (omega arith)) b h)

  deep : D 1 ≡ 1
  unfolding D
  deep = omega (arith, t.shape.top.0)

  along : Q 1 ≡ 0
  unfolding Q
  along = omega (arith, t.shape.top.1)

  -- the prefix answers in cell (1, 10) and in no other
  covered : (i k : ℕ) → i < 2 → Covers 8 10 (D i) (16 * Q i + k) → (i ≡ 1) × (k ≡ 10)
  unfolding D
  covered zero k l c = absurd (omega (arith, c.short, t.shape.top.0))
  covered (suc zero) k l c =
      let f : (16 * 0 + k) / 1 ≡ 10 = rw (deep, along) at c.fits in
      (refl, omega arith)
  covered (suc (suc i)) k l c = absurd (omega arith)

  -- its word is written
  renewed : Renewed (hops 32 one_route) 8 10 (said linked) (goes linked) (said two_nodes) (goes two_nodes) (λ i. i < 2) D Q
  unfolding said local hops held
  renewed =
      record {
        new = λ i k l h c. let e = covered i k l c in rw (e.0, e.1, deep, along);
        old =
            λ i k l h n. word_else linked 1 10 2 (omega arith) i k h
            (λ a b. n (rw (a, b, deep, along) record { long = omega arith; short = omega arith; fits = refl }));
        links = λ i k l h. word_links linked 1 10 2 (omega arith) i k;
      }

  trie : TrieOf 32 (hops 32 one_route) two_nodes 2
  unfolding hops held
  trie =
      record {
        depth = D;
        path = Q;
        fits = omega arith;
        shape = insert_words (hops 32 []) (hops 32 one_route) 8 10 1 apart with_way renewed (λ e. omega arith) (omega arith) (omega arith);
      }

pub worked : Worked
unfolding looked nibbles said goes
worked = (trie (empty 32 zeros (omega arith) (omega arith) (λ i l. get_or-replicate 64 i 0 0 (omega arith))), refl, refl)
