-- The lines of routes, one more at a time. Assumes nothing.
use Rattle.std.proofs.Common.{◌≡◌, ℕ, ◌+◌, ◌-◌, ◌<◌, ◌≤◌, List, [], ◌∷◌, ◌++◌, length, get_or, drop, sym, ap, ◌∙◌, append_assoc, append-nil, arith}
use Rattle.std.proofs.lemmas.List.Edits.{between_more, between_none}
use Rattle.std.proofs.lemmas.List.{length-drop, take_all}
use Rattle.prefix.specs.Routes.{Route, no_route}
use Rattle.serve.specs.Replies.{route_line, lines, between}

lines_end : (opening : List ℕ) (rs : List Route) (r : Route) → lines opening (rs ++ (r ∷ [])) ≡ lines opening rs ++ route_line opening r
unfolding lines
lines_end opening [] r = append-nil (route_line opening r)
lines_end opening (s ∷ rs) r = ap (λ (l : List ℕ). route_line opening s ++ l) (lines_end opening rs r) ∙ sym (append_assoc (route_line opening s) (lines opening rs) (route_line opening r))

-- no route, no line
pub lines_none : (opening : List ℕ) (rs : List Route) (from : ℕ) → lines opening (between from from rs) ≡ []
unfolding lines
lines_none opening rs from = ap (lines opening) (between_none rs from)

-- one more route, one more line
pub lines_more : (opening : List ℕ) (rs : List Route) (from k : ℕ) → from ≤ k → k < length rs → lines opening (between from (k + 1) rs) ≡ lines opening (between from k rs) ++ route_line opening (get_or rs k no_route)
lines_more opening rs from k h l = ap (lines opening) (between_more rs from k no_route h l) ∙ lines_end opening (between from k rs) (get_or rs k no_route)

-- past the last route there are no more
pub lines_all : (opening : List ℕ) (rs : List Route) (from k to : ℕ) → length rs ≤ k → k ≤ to → lines opening (between from k rs) ≡ lines opening (between from to rs)
lines_all opening rs from k to h l =
    let n = length-drop from rs in
    ap (lines opening) (take_all (k - from) (drop from rs) (omega arith) ∙ sym (take_all (to - from) (drop from rs) (omega arith)))
