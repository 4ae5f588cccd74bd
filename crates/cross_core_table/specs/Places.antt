-- Seats at the table as code steps with them, and what each call of a seat does to what it knows.
use Rattle.std.specs.Prelude.{◌≡◌, ◌≢◌, ℕ, suc, List, [], ◌∷◌, ◌++◌, Option, Some, None, unwrap_or}
use Rattle.atomic_table.specs.declared.shared.Seat.{Seat}
use Rattle.bus_semantics.specs.declared.entries.Actor.{Actor}
use Rattle.bus_semantics.specs.declared.entries.Entry.{Entry}
use Rattle.bus_semantics.specs.declared.entries.Stamped.{Stamped}
use Rattle.bus_semantics.specs.Common.{Plan, Wanted, wanted_by, event_of, Noted}
use Rattle.object_kinds.specs.declared.acted.Filled.{Filled}
use Rattle.object_kinds.specs.declared.acted.Shown.{Shown}
use Rattle.object_kinds.specs.Common.{acted}
use Rattle.port_objects.specs.declared.object.Object.{Object}
use Rattle.port_objects.specs.declared.bench.Benched.{Benched}
use Rattle.port_objects.specs.declared.bench.Benched.TheVariants.{Done, NotYet, Contended}
use Rattle.port_objects.specs.Common.{Kept, lead, kept_of, IsOfPlan, IsAnswer, why_held, IsStampedFor}
use Rattle.cross_core_table.specs.declared.seats.CoreSeat.{CoreSeat}
use Rattle.cross_core_table.specs.declared.views.Opening.{Opening}
use Rattle.cross_core_table.specs.declared.views.View.{View}
use Rattle.cross_core_table.specs.Logs.{plan_in, kept_after}
use Rattle.cross_core_table.specs.Plays.{Sat, as_stamped, held_of, holding, failing, making}

abbrev pub Place : Type 0
Place = Seat Object View

-- it stays the same seat
pub record IsSamePlace (old new : Place) : Type 0 where
  pub table : new.table_id ≡ old.table_id
  pub id : new.id ≡ old.id

-- ---- a seat that holds nothing, and one that holds an object

-- a seat of the round that holds nothing
pub record IsIdle (k : Opening) (core : ℕ) (m : Sat) : Type 0 where
  pub opening : m.0.opening ≡ Some k
  pub number : m.0.core ≡ core
  pub held : m.0.held ≡ None
  pub slots : m.1 ≡ []

-- the object is in hand of a seat that knew this before, with the entries of the round that touch it, along which the lead gives what it keeps
pub record IsTakenBy (k : Opening) (v : View) (m : Sat) (o : ℕ) (object : Object) : Type 0 where
  pub entries : List Stamped
  pub seat : m ≡ (holding v (held_of o entries), (o, object) ∷ [])
  pub kept : kept_after k o entries ≡ Some (kept_of object)
  pub planned : IsOfPlan (plan_in k) o object

-- the object that a seat holds keeps what the lead gives along the entries that the seat was told of and made
pub record IsHolding (k : Opening) (m : Sat) (o : ℕ) : Type 0 where
  pub opening : m.0.opening ≡ Some k
  pub object : Object
  pub slots : m.1 ≡ (o, object) ∷ []
  pub entries : List Stamped
  pub held : m.0.held ≡ Some (held_of o entries)
  pub kept : kept_after k o entries ≡ Some (kept_of object)
  pub planned : IsOfPlan (plan_in k) o object

-- what came of a wish on the object that a seat holds: its entry lies behind those that the seat made, and has no stamp yet
pub record HasFilled (p : Plan) (o : ℕ) (a : Actor) (w : Wanted) (held : Object) (old new : CoreSeat) (r : Filled) : Type 0 where
  pub entry : Entry
  pub object : Object
  pub made : new.made.items ≡ old.made.items ++ as_stamped 0 entry (event_of w) ∷ []
  pub slots : new.place.me.1 ≡ (o, object) ∷ []
  pub answer : IsAnswer p o a w held object (acted r entry)
  pub planned : IsOfPlan p o object

-- an entry was made on the object that a seat holds, and is not stamped yet: what it kept leads by it to what it keeps
pub record IsToKeep (k : Opening) (m : Sat) (o : ℕ) (e : Entry) (event : Option ℕ) : Type 0 where
  pub object : Object
  pub slots : m.1 ≡ (o, object) ∷ []
  pub entries : List Stamped
  pub held : m.0.held ≡ Some (held_of o entries)
  pub before : Kept
  pub kept : kept_after k o entries ≡ Some before
  pub leads : lead (plan_in k) o before (record { entry = e; event = event }) ≡ Some (kept_of object)
  pub planned : IsOfPlan (plan_in k) o object

-- a try for an object: the seat has it, or the word named another core and the seat holds nothing
pub record HasTried (k : Opening) (core o r : ℕ) (old new : Sat) : Type 0 where
  pub took : r ≡ 0 → (object : Object) × IsTakenBy k old.0 new o object
  pub missed : r ≢ 0 → (new ≡ (failing old.0 o r, [])) × (r ≢ suc core)

-- ---- what a wish does to what a seat knows

-- after these entries of the round no entry of the actor and of the wish leads on, and this is shown
pub record IsHeldAfter (k : Opening) (o : ℕ) (a : Actor) (w : Wanted) (entries : List Stamped) (shown : Shown) : Type 0 where
  pub kept : Kept
  pub leads : kept_after k o entries ≡ Some kept
  pub none : (n : Noted) → n.entry.actor ≡ a → wanted_by (unwrap_or n.event 0) n.entry.deed ≡ w → lead (plan_in k) o kept n ≡ None
  pub why : shown ≡ why_held kept w

-- a look of the call found the entries after which the wish may not come
pub record HasLooked (k : Opening) (o : ℕ) (a : Actor) (w : Wanted) (old new : View) (shown : Shown) : Type 0 where
  pub entries : List Stamped
  pub view : new ≡ record old { look = Some (held_of o entries); looks = suc old.looks }
  pub held : IsHeldAfter k o a w entries shown

-- the one try of the call found the word naming another core
pub record HasLost (core o : ℕ) (old new : View) : Type 0 where
  pub word : ℕ
  pub view : new ≡ failing old o word
  pub nonzero : word ≢ 0
  pub other : word ≢ suc core

-- the entry is the last of its part
pub record HasMade (p : Plan) (a : Actor) (w : Wanted) (old new : View) (s : Stamped) : Type 0 where
  pub view : new ≡ making old s
  pub entry : IsStampedFor p a w s

-- what a seat knows after a wish
abbrev pub KnowsAfter : Opening → (core o : ℕ) → Actor → Wanted → (old new : View) → Benched → Type 0
KnowsAfter k core o a w old new (Done s) = HasMade (plan_in k) a w old new s
KnowsAfter k core o a w old new (NotYet shown) = HasLooked k o a w old new shown
KnowsAfter k core o a w old new Contended = HasLost core o old new
