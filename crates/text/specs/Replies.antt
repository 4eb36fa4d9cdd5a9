-- How single replies are written, for whoever reads them. Assumes nothing: these are definitions.
use Rattle.std.specs.Prelude.{ℕ, List, ◌++◌, codes, decimal as figures}
use Rattle.text.specs.declared.replies.Reply.{Reply}
use Rattle.text.specs.declared.replies.Reply.TheVariants.{To, Nowhere, Ready, Full, Without, Refused, NoMemory, Route, Beneath, Nodes}
use Rattle.text.specs.Dots.{dots}

-- the bytes of a reply
abbrev pub written : Reply → List ℕ
written (To hop) = figures hop
written Nowhere = codes "nowhere"
written Ready = codes "ready"
written Full = codes "full"
written Without = codes "without"
written (Refused number place) = codes "refused " ++ (figures number ++ (codes " at " ++ figures place))
written NoMemory = codes "no memory"
written (Route bits len hop) = dots bits ++ (codes " " ++ (figures len ++ (codes " to " ++ figures hop)))
written (Beneath count) = figures count ++ codes " beneath"
written (Nodes count) = figures count ++ codes " nodes"
