-- How replies are printed, for whoever reads what the program prints. Assumes nothing: these are definitions.
use Rattle.std.specs.Prelude.{ℕ, ◌-◌, List, [], ◌∷◌, ◌++◌, take, drop, codes, decimal as figures}
use Rattle.prefix.specs.Routes.{Route}
use Rattle.text.specs.Dots.{dots}
use Rattle.text.specs.Refusals.{refused}
use Rattle.serve.specs.declared.replies.Reply.{Reply}
use Rattle.serve.specs.declared.replies.Reply.TheVariants.{To, Nowhere, Ready, Full, Without, Refused, NoMemory, Beneath, Listed, Nodes, Help}

-- the routes of a list from one place to before another
abbrev pub between : (from to : ℕ) → List Route → List Route
between from to rs = take (to - from) (drop from rs)

-- a route's line, behind an opening, with its end
unfoldable pub route_line : List ℕ → Route → List ℕ
route_line opening r = opening ++ (dots r.bits ++ (codes " " ++ (figures r.len ++ (codes " to " ++ (figures r.hop ++ codes "\n")))))

-- the lines of routes, which all begin alike
unfoldable pub lines : List ℕ → List Route → List ℕ
lines opening [] = []
lines opening (r ∷ rs) = route_line opening r ++ lines opening rs

-- the commands, a line each
abbrev pub help : List ℕ
help = codes "table ROOM\nput ADDRESS LENGTH to HOP\naway ADDRESS LENGTH\nlook ADDRESS\nbeneath ADDRESS LENGTH\nlist\nnodes\nhelp"

-- the bytes of a reply, over the routes of the table that it speaks of
abbrev pub written : List Route → Reply → List ℕ
written rs (To hop) = figures hop
written rs Nowhere = codes "nowhere"
written rs Ready = codes "ready"
written rs Full = codes "full"
written rs Without = codes "without"
written rs (Refused refusal) = refused refusal
written rs NoMemory = codes "no memory"
written rs (Beneath from to) = lines [] (between from to rs) ++ (figures (to - from) ++ codes " beneath")
written rs (Listed count) = lines (codes "put ") (between 0 count rs) ++ (codes "# " ++ (figures count ++ codes " routes"))
written rs (Nodes count) = figures count ++ codes " nodes"
written rs Help = help
