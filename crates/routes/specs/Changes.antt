-- What a change of a route list answers and leaves, in any list; and what it comes to in a list in order. Assumes nothing: these are definitions.
use Rattle.std.specs.Prelude.{◌≡◌, ℕ, suc, ◌+◌, ◌-◌, List, Some, None, Ok, Err, Option, Result, slice_index, slice_set}
use Rattle.std.specs.List.{insert, remove}
use Rattle.prefix.specs.Routes.{Route, InOrder, SameMembers, put, away, held}
use Rattle.routes.specs.Rows.{slot, count_in, room_in, routes}
use Rattle.prefix.specs.Map.{told}
use Rattle.routes.specs.Searches.{Found, Missing}
use Rattle.routes.specs.Gaps.{Opened, Closed}
use Rattle.routes.specs.declared.edits.Full.{Full}

-- a route was added at a place: the count is one more, what stood there and behind it stands a stride further, and nothing else moved
pub record Added (words stride : ℕ) (old new : List ℕ) (r : Route) (k : ℕ) : Type 0 where
  pub list : routes words stride new ≡ insert (routes words stride old) k r
  pub room : room_in words stride new ≡ room_in words stride old
  pub moved : Opened stride (slot stride k) (slot stride (count_in words stride old)) (slice_set old 0 (suc (count_in words stride old))) new

-- the hop of a route was replaced, and nothing else
pub record Replaced (words stride : ℕ) (old new : List ℕ) (r : Route) (k : ℕ) : Type 0 where
  pub list : routes words stride new ≡ slice_set (routes words stride old) k r
  pub room : room_in words stride new ≡ room_in words stride old
  pub row : new ≡ slice_set old (slot stride k + (words + 1)) r.hop

-- the route at a place was taken out: the count is one less, what stood behind it stands a stride nearer, and nothing else moved
pub record Removed (words stride : ℕ) (old new : List ℕ) (k : ℕ) : Type 0 where
  pub list : routes words stride new ≡ remove (routes words stride old) k
  pub room : room_in words stride new ≡ room_in words stride old
  pub moved : Closed stride (slot stride k) (slot stride (count_in words stride old)) (slice_set old 0 (count_in words stride old - 1)) new

-- an insertion adds the route where its prefix is missing, or replaces the hop and answers the one before, or says that the list is full and leaves the row as it was
abbrev pub InsertSays : (words stride : ℕ) (old new : List ℕ) → Route → Result (Option ℕ) Full → Type 0
InsertSays words stride old new r (Ok None) = (k : ℕ) × Missing (routes words stride old) r.bits r.len k × Added words stride old new r k
InsertSays words stride old new r (Ok (Some hop)) =
    (k : ℕ) × Found (routes words stride old) r.bits r.len k × (slice_index old (slot stride k + (words + 1)) ≡ hop) × Replaced words stride old new r k
InsertSays words stride old new r (Err full) =
    (k : ℕ) × Missing (routes words stride old) r.bits r.len k × (count_in words stride old ≡ room_in words stride old) × (new ≡ old)

-- a removal takes the route out and answers its hop, or says that there is none and leaves the row as it was
abbrev pub RemoveSays : (words stride : ℕ) (old new : List ℕ) (bits len : ℕ) → Option ℕ → Type 0
RemoveSays words stride old new bits len (Some hop) =
    (k : ℕ) × Found (routes words stride old) bits len k × (slice_index old (slot stride k + (words + 1)) ≡ hop) × Removed words stride old new k
RemoveSays words stride old new bits len None = (k : ℕ) × Missing (routes words stride old) bits len k × (new ≡ old)

-- a list in order stays in order, and as a set is what putting makes of it
pub record PutInOrder (rs new : List Route) (r : Route) (was : ℕ) : Type 0 where
  pub order : InOrder new
  pub members : SameMembers new (put r rs)
  pub held_before : held r.len r.bits rs ≡ was

abbrev pub InsertKeeps : (rs new : List Route) → Route → Result (Option ℕ) Full → Type 0
InsertKeeps rs new r (Ok was) = InOrder rs → PutInOrder rs new r (told was)
InsertKeeps rs new r (Err full) = InOrder rs → held r.len r.bits rs ≡ 0

-- and what taking away makes of it
pub record AwayInOrder (rs new : List Route) (bits len : ℕ) (was : ℕ) : Type 0 where
  pub order : InOrder new
  pub members : SameMembers new (away len bits rs)
  pub held_before : held len bits rs ≡ was

abbrev pub RemoveKeeps : (rs new : List Route) (bits len : ℕ) → Option ℕ → Type 0
RemoveKeeps rs new bits len was = InOrder rs → AwayInOrder rs new bits len (told was)
