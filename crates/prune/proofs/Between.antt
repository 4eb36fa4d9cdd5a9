-- A row of which some nodes are free answers as one of which none is: for the laws. Assumes nothing.
use Rattle.std.proofs.Common.{◌+◌, ◌*◌, refl, arith}
use Rattle.trie.specs.Nodes.{said, goes}
use Rattle.trie.proofs.Changes.{unchanged}
use Rattle.trie.proofs.Descent.{looked_live}
use Rattle.prune.specs.Laws.{Answers, FreeAny}

pub answers : Answers
answers n key m t nodes free left h long some small =
    looked_live t h.loose.shape (λ i u. let b = u.below in omega arith) n key some refl small

pub free_any : FreeAny
unfolding said goes
free_any w m t t' nodes free left same h =
    record {
      differ = h.differ;
      loose =
          record {
            depth = h.loose.depth;
            path = h.loose.path;
            shape = unchanged h.loose.shape (λ i k u l. same i (2 * k) u (omega arith)) (λ i k u l. same i (2 * k + 1) u (omega arith));
          };
    }
