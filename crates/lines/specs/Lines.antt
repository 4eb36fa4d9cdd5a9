-- How a line of bytes is read, or refused, for whoever writes lines.
use Rattle.std.specs.Prelude.{◌≡◌, ℕ, ◌-◌, Bool, cond, ◌&&◌, List, length, take, Some, None, Ok, Err, IsUtf8, Option, Result, ◌==◌, nat_le, slice_index}
use Rattle.lines.specs.declared.lines.Line.{Line}
use Rattle.text.specs.declared.refusals.Refusal.{Refusal}
use Rattle.text.specs.declared.refusals.Refusal.TheVariants.{Line as Unread}
use Rattle.lines.specs.Commands.{reads}

-- whether byte b stands k bytes before the end
abbrev pub stands : (k b : ℕ) → List ℕ → Bool
stands k b bs = nat_le k (length bs) && slice_index bs (length bs - k) == b

-- a line without what ends it: a line feed (10), or a carriage return (13) and a line feed
abbrev pub chomped : List ℕ → List ℕ
chomped bs = cond (stands 1 10 bs) (cond (stands 2 13 bs) (take (length bs - 2) bs) (take (length bs - 1) bs)) bs

-- what a text says, or that the line of this place cannot be read
abbrev pub or_unread : ℕ → Option Line → Result Line Refusal
or_unread place None = Err (Unread place)
or_unread place (Some line) = Ok line

-- a line that is text says what its text says; one that is not cannot be read
pub record ReadSays (line : List ℕ) (place : ℕ) (r : Result Line Refusal) : Type 0 where
  pub text : IsUtf8 (chomped line) → r ≡ or_unread place (reads (chomped line))
  pub no_text : (IsUtf8 (chomped line) → ⊥) → r ≡ Err (Unread place)
