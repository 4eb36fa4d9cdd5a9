-- The nodes are the row's behind the default and the count, and the trie's lookup answers as the list there.
use Rattle.std.proofs.Common.{ℕ, ◌+◌, List, get_or, drop, sym, ap, ◌∙◌, subst}
use Rattle.std.proofs.lemmas.List.{take_rest}
use Rattle.prefix.specs.Words.{width}
use Rattle.prefix.specs.Map.{or_else, told, hops}
use Rattle.trie.specs.Shape.{TrieOf}
use Rattle.table.specs.Right.{listed, nodes}
use Rattle.table.proofs.parts.lookup.Goals as goal

pub returns-clause-right : goal.returns-clause-right
returns-clause-right g c right =
    let words : ℕ = g.K.Key.words in
    let row : List ℕ = c.args.table.now in
    let at = c.in_ok-at.ensures.0 in
    let part = c.over.ensures ∙ take_rest row (c.in_ok-at.at + 2) ∙ ap (λ (n : ℕ). drop (n + 2) row) at in
    let place = ap (λ (n : ℕ). get_or row n 0) at in
    let held : TrieOf (width g.K.Key.words) (hops (width g.K.Key.words) (listed g.K.Key.words c.args.table.now)) _ (nodes g.K.Key.words c.args.table.now) =
    subst (λ (t : List ℕ). TrieOf (width words) (hops (width words) (listed words row)) t (nodes words row)) (sym part) right.trie_is in
    c.or_default.ensures.value ∙ ap (or_else (told c.look.result)) (place ∙ right.default_is) ∙ c.look.ensures.agrees (listed words row) (nodes words row) right.proper held
