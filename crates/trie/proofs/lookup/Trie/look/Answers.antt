-- The proof of `look`: a lookup is right on the trie of a map, and so on that of a list.
use Rattle.std.proofs.Common.{◌≡◌, ℕ, ◌-◌, ◌*◌, ◌/◌, ◌^◌, ◌<◌, ◌∙◌, arith}
use Rattle.prefix.specs.Words.{width}
use Rattle.prefix.specs.Map.{told}
use Rattle.trie.specs.Nodes.{nibbles, looked}
use Rattle.trie.proofs.Descent.{looked_longest, looked_answer}
use Rattle.trie.proofs.lookup.Trie.look.Goals as goal

pub returns : goal.returns
returns g c =
    let n : ℕ = g.K.Key.words in
    let some = g.met.K.Key.some in
    let key : ℕ = g.K.Key.num c.args.key in
    let steps : 0 < 8 * n = omega arith in
    let wide : 4 * (8 * n) ≡ width n = omega arith in
    let small : key / 2 ^ (width n - 4) < 16 = c.descend.ensures.small (omega arith) in
    let value : c.descend.result ≡ looked c.args.self.now.nodes.now 0 (nibbles (width n) (8 * n) key) 0 =
    rw c.words.ensures at c.descend.ensures.value in
    let said : told c.hop_in.result ≡ looked c.args.self.now.nodes.now 0 (nibbles (width n) (8 * n) key) 0 = c.hop_in.ensures.value ∙ value in
    record {
      value = said;
      right = λ m count trie. rw said (looked_longest trie (8 * n) key steps wide small);
      agrees = λ rs count g trie. rw said (looked_answer rs g trie (8 * n) key steps wide small);
      low = c.hop_in.ensures.low;
    }
