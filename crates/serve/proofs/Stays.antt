-- A right table stays right whatever is asked of it. Assumes nothing.
use Rattle.std.proofs.Common.{◌≡◌, ℕ, zero, suc, List, [], sym, subst, ⊎_elim}
use Rattle.prefix.specs.Routes.{Route, route_of}
use Rattle.table.specs.Right.{Right, listed, room}
use Rattle.table.specs.Changes.{PutDone, PutFull, AwayDone, AwayNone}
use Rattle.table.specs.Entries.{refusal, PutEntrySays, ApplySays}
use Rattle.table.specs.declared.entries.Change.{Change}
use Rattle.table.specs.declared.entries.Change.TheVariants as change
use Rattle.table.specs.declared.entries.Done.{Done}
use Rattle.table.specs.declared.entries.Done.TheVariants.{Ready, Full, Without}
use Rattle.text.specs.declared.lines.Command.TheVariants as basic
use Rattle.lines.specs.declared.commands.Command.{Command}
use Rattle.lines.specs.declared.commands.Command.TheVariants as command
use Rattle.serve.specs.declared.replies.Reply.{Reply}
use Rattle.serve.specs.declared.replies.Reply.TheVariants.{Ready as Set, NoMemory}
use Rattle.serve.specs.Serves.{Serves}

unchanged : (old new : List ℕ) → new ≡ old → Right 1 old → Right 1 new
unchanged old new e = subst (Right 1) (sym e)

put_right : (number : ℕ) (old new : List ℕ) (r : Route) (done : Done) → PutEntrySays number old new r done → Right 1 old → Right 1 new
put_right zero old new r done h right = ⊎_elim (λ (s : (done ≡ Ready) × PutDone 1 old new r). s.1.right) (λ (s : (done ≡ Full) × PutFull 1 old new r). unchanged old new s.1.same right) (h right)
put_right (suc number) old new r done h right = unchanged old new h.3 right

pub change_right : (old new : List ℕ) (c : Change) (done : Done) → ApplySays old new c done → Right 1 old → Right 1 new
change_right old new (change.Put bits len hop) done h right = put_right (refusal bits len hop) old new (route_of bits len hop) done h right
change_right old new (change.Away bits len) done h right = ⊎_elim (λ (s : (done ≡ Ready) × AwayDone 1 old new len bits). s.1.right) (λ (s : (done ≡ Without) × AwayNone 1 old new len bits). unchanged old new s.1.same right) (h right)

-- every command
pub serves_right : (old new : List ℕ) (c : Command) (reply : Reply) → Serves old new c reply → Right 1 old → Right 1 new
serves_right old new (command.Basic (basic.Table wanted)) reply h right = ⊎_elim (λ (s : (reply ≡ Set) × Right 1 new × (listed 1 new ≡ []) × (room new ≡ wanted)). s.1) (λ (s : (reply ≡ NoMemory) × (new ≡ old)). unchanged old new s.1 right) h
serves_right old new (command.Basic (basic.Put bits len hop)) reply h right = change_right old new (change.Put bits len hop) h.done h.says right
serves_right old new (command.Basic (basic.Away bits len)) reply h right = change_right old new (change.Away bits len) h.done h.says right
serves_right old new (command.Basic (basic.Look address)) reply h right = unchanged old new h.0 right
serves_right old new (command.Basic (basic.Beneath bits len)) reply h right = unchanged old new h.0 right
serves_right old new command.List reply h right = unchanged old new h.0 right
serves_right old new (command.Basic basic.Nodes) reply h right = unchanged old new h.0 right
serves_right old new command.Help reply h right = unchanged old new h.0 right
