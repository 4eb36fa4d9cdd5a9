-- What is left of what `lines` reads once `list` and `help` are refused is what `text` reads. Assumes nothing.
use Rattle.std.proofs.Common.{◌≡◌, ℕ, Bool, true, false, List, Some, None, Ok, Err, Option, Result, codes, cond, refl, ap, ◌∙◌}
use Rattle.std.specs.Option.{option_map}
use Rattle.std.specs.Str.{bytes_eq}
use Rattle.std.proofs.lemmas.Slice.Eq.{bytes_eq-Decides}
use Rattle.text.specs.declared.lines.Line.{Line as TextLine}
use Rattle.text.specs.declared.lines.Line.TheVariants as text
use Rattle.text.specs.declared.refusals.Refusal.{Refusal}
use Rattle.text.specs.declared.refusals.Refusal.TheVariants.{Line as Unread}
use Rattle.text.specs.Commands.{reads as text_reads, ordered, asked}
use Rattle.text.specs.Fields.{fields}
use Rattle.lines.specs.declared.commands.Command.TheVariants.{Basic, List as Listing, Help}
use Rattle.lines.specs.declared.lines.Line.{Line}
use Rattle.lines.specs.declared.lines.Line.TheVariants.{Blank, Command as Asks}
use Rattle.lines.specs.Commands.{reads, widened}
use Rattle.lines.specs.Lines.{chomped, or_unread, ReadSays as LineSays}
use Rattle.jeghrumo.specs.Reads.{ReadSays}

-- the two commands refused
abbrev pub narrowed : ℕ → Result Line Refusal → Result Line Refusal
narrowed place (Err refusal) = Err refusal
narrowed place (Ok Blank) = Ok Blank
narrowed place (Ok (Asks (Basic command))) = Ok (Asks (Basic command))
narrowed place (Ok (Asks Listing)) = Err (Unread place)
narrowed place (Ok (Asks Help)) = Err (Unread place)

no_list : text_reads (codes "list") ≡ None
unfolding text_reads ordered fields asked
no_list = refl

no_help : text_reads (codes "help") ≡ None
unfolding text_reads ordered fields asked
no_help = refl

-- what `text` reads is neither of them
wide : (place : ℕ) (o : Option TextLine) → narrowed place (or_unread place (option_map widened o)) ≡ or_unread place (option_map widened o)
wide place None = refl
wide place (Some text.Blank) = refl
wide place (Some (text.Command command)) = refl

left : (place : ℕ) (a b : Bool) (bs : List ℕ) → (a ≡ true → text_reads bs ≡ None) → (b ≡ true → text_reads bs ≡ None)
    → narrowed place (or_unread place (cond a (Some (Asks Listing)) (cond b (Some (Asks Help)) (option_map widened (text_reads bs))))) ≡ or_unread place (option_map widened (text_reads bs))
left place true b bs h i = rw (h refl) refl
left place false true bs h i = rw (i refl) refl
left place false false bs h i = wide place (text_reads bs)

known : (place : ℕ) (bs : List ℕ) → narrowed place (or_unread place (reads bs)) ≡ or_unread place (option_map widened (text_reads bs))
unfolding reads
known place bs =
    left place (bytes_eq bs (codes "list")) (bytes_eq bs (codes "help")) bs
    (λ e. ap text_reads ((bytes_eq-Decides bs (codes "list")).0 e) ∙ no_list)
    (λ e. ap text_reads ((bytes_eq-Decides bs (codes "help")).0 e) ∙ no_help)

pub narrow : (line : List ℕ) (place : ℕ) (said r : Result Line Refusal) → LineSays line place said → r ≡ narrowed place said → ReadSays line place r
narrow line place said r s e = record {
  text = λ u. e ∙ ap (narrowed place) (s.text u) ∙ known place (chomped line);
  no_text = λ n. e ∙ ap (narrowed place) (s.no_text n);
}
