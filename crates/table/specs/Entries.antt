-- What the entries for keys of 32 bits answer and leave, and what a slice of changes makes of a list. Assumes nothing: these are definitions.
use Rattle.std.specs.Prelude.{◌≡◌, ℕ, zero, suc, cond, ◌⊎◌, List, [], ◌∷◌, length, nat_le}
use Rattle.prefix.specs.Routes.{Route, route_of, good_prefix, SameMembers, put, away}
use Rattle.table.specs.Right.{Right, room, listed}
use Rattle.table.specs.Changes.{PutDone, PutFull, AwayDone, AwayNone}
use Rattle.table.specs.declared.entries.Done.{Done}
use Rattle.table.specs.declared.entries.Done.TheVariants.{Ready, Full, Without, Refused}
use Rattle.table.specs.declared.entries.Refusal.{Refusal}
use Rattle.table.specs.declared.entries.Refusal.TheVariants.{Prefix, Hop}
use Rattle.table.specs.declared.entries.Change.{Change}
use Rattle.table.specs.declared.entries.Change.TheVariants.{Put, Away}

-- the numbers of the refusals
abbrev pub number : Refusal → ℕ
number Prefix = 1
number Hop = 2

-- why a route cannot be put: 1, its bits and length are no prefix; 2, its hop is above 65,535; 0, it can
abbrev pub refusal : (bits len hop : ℕ) → ℕ
refusal bits len hop = cond (good_prefix 32 len bits) (cond (nat_le hop 65535) 0 2) 1

-- a refusal changes nothing, in any row. Of a right table: ready, and the table is right again with the route put; or full, and nothing changed
abbrev pub PutEntrySays : (refused : ℕ) (old new : List ℕ) → Route → Done → Type 0
PutEntrySays (suc n) old new r done = (reason : Refusal) × (done ≡ Refused reason) × (number reason ≡ suc n) × (new ≡ old)
PutEntrySays zero old new r done = Right 1 old → ((done ≡ Ready) × PutDone 1 old new r) ⊎ ((done ≡ Full) × PutFull 1 old new r)

-- of a right table: ready, and the table is right again without the route; or there was none, and nothing changed
abbrev pub TakeAwaySays : (old new : List ℕ) (len bits : ℕ) → Done → Type 0
TakeAwaySays old new len bits done = Right 1 old → ((done ≡ Ready) × AwayDone 1 old new len bits) ⊎ ((done ≡ Without) × AwayNone 1 old new len bits)

-- one change, by its entry
abbrev pub ApplySays : (old new : List ℕ) → Change → Done → Type 0
ApplySays old new (Put bits len hop) done = PutEntrySays (refusal bits len hop) old new (route_of bits len hop) done
ApplySays old new (Away bits len) done = TakeAwaySays old new len bits done

-- what one change makes of a list with room for n: the route is put, or the list is full and stays; what is refused leaves it; the route is taken away
abbrev pub PutEffect : (refused n : ℕ) → Route → (rs new : List Route) → Type 0
PutEffect (suc refused) n r rs new = new ≡ rs
PutEffect zero n r rs new = SameMembers new (put r rs) ⊎ ((length rs ≡ n) × (length (put r rs) ≡ suc n) × (new ≡ rs))

abbrev pub Effect : (n : ℕ) → Change → (rs new : List Route) → Type 0
Effect n (Put bits len hop) rs new = PutEffect (refusal bits len hop) n (route_of bits len hop) rs new
Effect n (Away bits len) rs new = SameMembers new (away len bits rs)

-- what changes make of a list, one after the other
abbrev pub Carried : (n : ℕ) → List Change → (rs new : List Route) → Type 0
Carried n [] rs new = new ≡ rs
Carried n (c ∷ cs) rs new = (mid : List Route) × Effect n c rs mid × Carried n cs mid new

-- a right table ends right, with the same room, and with the routes that the changes make of its list
pub record CarriedOut (old new : List ℕ) (changes : List Change) : Type 0 where
  pub right : Right 1 new
  pub space : room new ≡ room old
  pub list : Carried (room old) changes (listed 1 old) (listed 1 new)
