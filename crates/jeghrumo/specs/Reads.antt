-- Which lines the program can read, for whoever writes lines to it. Assumes nothing: these are definitions.
use Rattle.std.specs.Prelude.{◌≡◌, ℕ, List, Err, IsUtf8, Result}
use Rattle.std.specs.Option.{option_map}
use Rattle.text.specs.declared.refusals.Refusal.{Refusal}
use Rattle.text.specs.declared.refusals.Refusal.TheVariants.{Line as Unread}
use Rattle.text.specs.Commands.{reads}
use Rattle.lines.specs.declared.lines.Line.{Line}
use Rattle.lines.specs.Commands.{widened}
use Rattle.lines.specs.Lines.{chomped, or_unread}

-- a line says what `text` reads of it, so neither `list` nor `help`; one that is no text cannot be read
pub record ReadSays (line : List ℕ) (place : ℕ) (r : Result Line Refusal) : Type 0 where
  pub text : IsUtf8 (chomped line) → r ≡ or_unread place (option_map widened (reads (chomped line)))
  pub no_text : (IsUtf8 (chomped line) → ⊥) → r ≡ Err (Unread place)
