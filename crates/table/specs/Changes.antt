-- What putting a route and taking one away make of a right table, for keys of any words. Assumes nothing: these are definitions.
use Rattle.std.specs.Prelude.{◌≡◌, ℕ, suc, Bool, true, false, List, length, Ok, Err, Result}
use Rattle.prefix.specs.Routes.{Route, SameMembers, put, away}
use Rattle.routes.specs.declared.edits.Full.{Full}
use Rattle.table.specs.Right.{Right, room, listed}

-- the table is right again, has the same room, and its routes are as a set what putting makes of those before
pub record PutDone (words : ℕ) (old new : List ℕ) (r : Route) : Type 0 where
  pub right : Right words new
  pub space : room new ≡ room old
  pub members : SameMembers (listed words new) (put r (listed words old))

-- the list has no room for one more route, and the prefix is a new one; nothing changed
pub record PutFull (words : ℕ) (old new : List ℕ) (r : Route) : Type 0 where
  pub full : length (listed words old) ≡ room old
  pub more : length (put r (listed words old)) ≡ suc (room old)
  pub same : new ≡ old

abbrev pub PutSays : (words : ℕ) (old new : List ℕ) → Route → Result (Unit {0}) Full → Type 0
PutSays words old new r (Ok done) = PutDone words old new r
PutSays words old new r (Err full) = PutFull words old new r

-- the same for taking away, and there is one route less
pub record AwayDone (words : ℕ) (old new : List ℕ) (len bits : ℕ) : Type 0 where
  pub right : Right words new
  pub space : room new ≡ room old
  pub members : SameMembers (listed words new) (away len bits (listed words old))
  pub fewer : suc (length (listed words new)) ≡ length (listed words old)

-- there is no such route; nothing changed
pub record AwayNone (words : ℕ) (old new : List ℕ) (len bits : ℕ) : Type 0 where
  pub none : away len bits (listed words old) ≡ listed words old
  pub same : new ≡ old

abbrev pub AwaySays : (words : ℕ) (old new : List ℕ) (len bits : ℕ) → Bool → Type 0
AwaySays words old new len bits true = AwayDone words old new len bits
AwaySays words old new len bits false = AwayNone words old new len bits
