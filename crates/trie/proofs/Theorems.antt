-- The theorems, proved: what src/laws.rt cites. Assumes nothing.
use Rattle.std.proofs.Common.{◌≡◌, ℕ, zero, suc, ◌+◌, ◌-◌, ◌*◌, refl, subst, add-mul, mul-le-mul_left, arith}
use mathlib.Core.Path.{fun_ext}
use Rattle.prefix.specs.Routes.{held}
use Rattle.prefix.specs.Map.{Hops, hops}
use Rattle.trie.specs.Nodes.{said, goes}
use Rattle.trie.specs.Shape.{local, TrieOf}
use Rattle.trie.specs.Theorems.{NodeBound, RoomEnough, Empty, NamedOnce, SameMap, SameRow}
use Rattle.trie.proofs.Shapes.{named}
use Rattle.trie.proofs.Changes.{unchanged}
use Rattle.trie.proofs.Places.{deeper_closed}
use Rattle.trie.proofs.Room.{room}

pub node_bound : NodeBound
node_bound zero rs t nodes h = absurd (omega (arith, h.shape.high 0 h.shape.root))
node_bound (suc g) rs t nodes h =
    let e : suc g - 1 ≡ g = omega arith in
    rw e (room rs g (omega arith) (λ d c p. p) h.shape)

pub room_enough : RoomEnough
room_enough words n rs t nodes some fits h =
    let g : ℕ = 8 * words - 1 in
    let e : 8 * words ≡ g + 1 = omega arith in
    let few = room rs g (omega arith) (λ d c p. p) h.shape in
    let more = mul-le-mul_left g fits in
    rw e (omega (arith, add-mul g 1 n))

pub empty : Empty
unfolding said goes local hops held
empty w t some long zeros =
    record {
      depth = λ i. 0;
      path = λ i. 0;
      fits = omega arith;
      shape =
          record {
            root = omega arith;
            top = (refl, refl);
            high = λ i l. omega arith;
            narrow = λ i l. omega arith;
            says = λ i k l h. zeros (32 * i + 2 * k) (omega arith);
            stops = λ i k l h z d. d.there refl;
            goes_on = λ i k l h n. absurd (n (zeros (32 * i + (2 * k + 1)) (omega arith)));
            alone = λ i j a b d p. omega arith;
            used = λ i a b. absurd (omega arith);
          };
    }

pub named_once : NamedOnce
named_once w m t nodes h = named h.shape (deeper_closed m)

pub same_map : SameMap
same_map w m m' t nodes same h =
    let e : m ≡ m' = fun_ext (λ (l : ℕ). fun_ext (same l)) in
    subst (λ (n : Hops). TrieOf w n t nodes) e h

pub same_row : SameRow
unfolding said goes
same_row w m t t' nodes long same h =
    record {
      depth = h.depth;
      path = h.path;
      fits = long;
      shape = unchanged h.shape (λ i k l s. same (32 * i + 2 * k) (omega arith)) (λ i k l s. same (32 * i + (2 * k + 1)) (omega arith));
    }
