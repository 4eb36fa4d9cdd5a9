-- What a command and a line make of a table, and what is replied. Assumes nothing: these are definitions.
use Rattle.std.specs.Prelude.{◌≡◌, ℕ, zero, suc, ◌⊎◌, List, [], length, Some, None, Ok, Err, Option, Result}
use Rattle.prefix.specs.Routes.{answer}
use Rattle.beneath.specs.Parts.{SpanSays}
use Rattle.table.specs.Right.{Right, room, listed, nodes}
use Rattle.table.specs.Answers.{found}
use Rattle.table.specs.Entries.{ApplySays}
use Rattle.table.specs.declared.entries.Change.{Change}
use Rattle.table.specs.declared.entries.Change.TheVariants as change
use Rattle.table.specs.declared.entries.Done.{Done}
use Rattle.table.specs.declared.entries.Done.TheVariants as done
use Rattle.table.specs.declared.entries.Refusal.TheVariants as refusal
use Rattle.text.specs.declared.lines.Command.TheVariants as basic
use Rattle.text.specs.declared.refusals.Refusal.{Refusal}
use Rattle.text.specs.declared.refusals.Refusal.TheVariants.{Prefix, Hop}
use Rattle.lines.specs.Lines.{ReadSays}
use Rattle.lines.specs.declared.commands.Command.{Command}
use Rattle.lines.specs.declared.commands.Command.TheVariants as command
use Rattle.lines.specs.declared.lines.Line.{Line}
use Rattle.lines.specs.declared.lines.Line.TheVariants.{Blank, Command as Asks}
use Rattle.serve.specs.declared.replies.Reply.{Reply}
use Rattle.serve.specs.declared.replies.Reply.TheVariants.{To, Nowhere, Ready, Full, Without, Refused, NoMemory, Beneath, Listed, Nodes, Help}

-- an answer in words: 0 is nowhere, and any other is one more than a hop
abbrev pub told : ℕ → Reply
told zero = Nowhere
told (suc hop) = To hop

-- what is replied to what an entry answers; a refusal is of the length, or of the hop
abbrev pub reply_of : Done → (len hop : ℕ) → Reply
reply_of (done.To to) len hop = To to
reply_of done.Nowhere len hop = Nowhere
reply_of done.Ready len hop = Ready
reply_of done.Full len hop = Full
reply_of done.Without len hop = Without
reply_of (done.Refused refusal.Prefix) len hop = Refused (Prefix len)
reply_of (done.Refused refusal.Hop) len hop = Refused (Hop hop)

-- a change is carried out as its entry says, and that is replied
pub record Changes (old new : List ℕ) (change : Change) (len hop : ℕ) (reply : Reply) : Type 0 where
  pub done : Done
  pub says : ApplySays old new change done
  pub replied : reply ≡ reply_of done len hop

-- an empty table with so much room took the place of the old one; or there was no memory, and it is as it was
abbrev pub Makes : (old new : List ℕ) (wanted : ℕ) → Reply → Type 0
Makes old new wanted reply = ((reply ≡ Ready) × Right 1 new × (listed 1 new ≡ []) × (room new ≡ wanted)) ⊎ ((reply ≡ NoMemory) × (new ≡ old))

-- what the table answers is replied, and in a right table that is what its list answers
abbrev pub Looks : (old : List ℕ) (address : ℕ) → Reply → Type 0
Looks old address reply = (reply ≡ told (found 1 old address)) × (Right 1 old → reply ≡ told (answer 32 (listed 1 old) address))

-- the places of the routes beneath a prefix are replied
abbrev pub Spans : (old : List ℕ) (len bits : ℕ) → Reply → Type 0
Spans old len bits reply = (from : ℕ) × (to : ℕ) × (reply ≡ Beneath from to) × SpanSays 1 3 old len bits from to

-- what each command makes of a table, and what is replied
abbrev pub Serves : (old new : List ℕ) → Command → Reply → Type 0
Serves old new (command.Basic (basic.Table wanted)) reply = Makes old new wanted reply
Serves old new (command.Basic (basic.Put bits len hop)) reply = Changes old new (change.Put bits len hop) len hop reply
Serves old new (command.Basic (basic.Away bits len)) reply = Changes old new (change.Away bits len) len 0 reply
Serves old new (command.Basic (basic.Look address)) reply = (new ≡ old) × Looks old address reply
Serves old new (command.Basic (basic.Beneath bits len)) reply = (new ≡ old) × Spans old len bits reply
Serves old new command.List reply = (new ≡ old) × (reply ≡ Listed (length (listed 1 old)))
Serves old new (command.Basic basic.Nodes) reply = (new ≡ old) × (reply ≡ Nodes (nodes 1 old))
Serves old new command.Help reply = (new ≡ old) × (reply ≡ Help)

-- what a line that was read, or refused, makes of a table, and what is replied
abbrev pub Follows : (old new : List ℕ) → Result Line Refusal → Option Reply → Type 0
Follows old new (Err refusal) r = (new ≡ old) × (r ≡ Some (Refused refusal))
Follows old new (Ok Blank) r = (new ≡ old) × (r ≡ None)
Follows old new (Ok (Asks asked)) r = (reply : Reply) × (r ≡ Some reply) × Serves old new asked reply

-- a line is read, and followed
pub record Responds (old new line : List ℕ) (place : ℕ) (r : Option Reply) : Type 0 where
  pub said : Result Line Refusal
  pub reads : ReadSays line place said
  pub follows : Follows old new said r
