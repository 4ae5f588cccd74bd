-- Which slots and events of a core may step. What sleeps is held: no start of it and no phase may come, as the objects are; and an activation
-- that waits at an area may not enter it, or another that waits there is awake and is tried before it.
use Rattle.std.specs.Prelude.{◌≡◌, ◌<◌, ◌≤◌, ◌⊎◌, ◌++◌, ◌∷◌, [], ℕ, suc, List, Bool, true, false, ◌&&◌, ◌==◌, if◌then◌else◌, length, map, replicate, set, slice_get, slice_index_or, Option, Some, None}
use Rattle.bus_semantics.specs.Common.{option_map_or, Plan, touched_by, start_try}
use Rattle.bus_semantics.specs.declared.entries.Stamped.{Stamped}
use Rattle.port_objects.specs.declared.object.Object.{Object}
use Rattle.port_objects.specs.Common.{kept_of, IsClosed, Work, IsFurther}
use Rattle.task_machine.specs.declared.instr.TaskSet.{TaskSet}
use Rattle.task_slots.specs.declared.slot.Slot.{Slot}
use Rattle.task_slots.specs.Slots.{events_of_slot, slot_tries}
use Rattle.task_slots.specs.Common.{AllHeld, noting_of, sum_below}
use Rattle.task_slots.specs.Waiting.{is_free, idle_tries, WaitsAt, HearsAt, flags, looks_awake}
use Rattle.core_turn.specs.declared.passed.Passed.{Passed}
use Rattle.core_turn.specs.declared.passed.Passed.TheVariants as pass
use Rattle.core_turn.specs.declared.turning.Turned.{Turned}
use Rattle.core_turn.specs.declared.turning.Turned.TheVariants.{Stepped, NothingNow, Contended}
use Rattle.core_turn.specs.Cores.{CoreState}

-- a flag for each slot, and for each of its events by position: whether it is awake; for each slot whether it sleeps since its activation
-- waits at an area, and the object of the area at which it waited last; and the slot at which the core's next turn begins
pub record AwakeState : Type 0 where
  pub slots : List Bool
  pub events : List (List Bool)
  pub waiting : List Bool
  pub areas : List ℕ
  pub first : ℕ

-- all events of these slots are awake
abbrev pub all_awake : List Slot → List (List Bool)
all_awake slots = map (λ (s : Slot). replicate (length (events_of_slot s)) true) slots

-- a place for each of a core's slots, and for each of its events; and the next turn begins at this slot
pub record Fits (slots : List Slot) (first : ℕ) (a : AwakeState) : Type 0 where
  pub count : length a.slots ≡ length slots
  pub rows : length a.events ≡ length slots
  pub widths : (i : ℕ) (s : Slot) (row : List Bool) → slice_get slots i ≡ Some s → slice_get a.events i ≡ Some row → length row ≡ length (events_of_slot s)
  pub waiting : length a.waiting ≡ length slots
  pub areas : length a.areas ≡ length slots
  pub begins : a.first ≡ first

-- ---- starts

-- an activation waits for the answer at a point, which may not come
pub record IsDeaf (p : Plan) (t : TaskSet) (objects : List Object) (s : Slot) : Type 0 where
  pub point : ℕ
  pub hears : HearsAt p t s point
  pub held : AllHeld p objects (slot_tries p t s)

-- nothing runs in a slot, and nothing of it may come: no start by its events, or not the machine's next phase; or its activation waits for an
-- answer
abbrev pub IsQuiet : Plan → TaskSet → List Object → Slot → Type 0
IsQuiet p t objects s = ((is_free s ≡ true) × AllHeld p objects (idle_tries p s)) ⊎ IsDeaf p t objects s

-- no event that sleeps may start; and of a slot that sleeps, and waits at no area, nothing may come
pub record StartsHeld (p : Plan) (t : TaskSet) (objects : List Object) (of : List Slot) (a : AwakeState) : Type 0 where
  pub events : (i j e : ℕ) (s : Slot) (row : List Bool) → slice_get of i ≡ Some s → slice_get a.events i ≡ Some row → slice_get (events_of_slot s) j ≡ Some e → slice_get row j ≡ Some false
      → AllHeld p objects (start_try p e)
  pub slots : (i : ℕ) (s : Slot) → slice_get of i ≡ Some s → slice_get a.slots i ≡ Some false → slice_get a.waiting i ≡ Some false → IsQuiet p t objects s

-- no start by the event at this place of a slot may come
abbrev pub IsOver : Plan → List Object → List Slot → (slot place : ℕ) → Type 0
IsOver p objects slots slot place = (s : Slot) (e : ℕ) → slice_get slots slot ≡ Some s → slice_get (events_of_slot s) place ≡ Some e → AllHeld p objects (start_try p e)

-- ---- activations that wait at areas

-- nobody may enter the area that is this object
pub record IsClosedAt (p : Plan) (objects : List Object) (object : ℕ) : Type 0 where
  pub area : Object
  pub found : slice_get objects object ≡ Some area
  pub closed : IsClosed p object (kept_of area)

-- a slot comes before another in cyclic order from the first on: both from there on, or the other only after the last slot, or both after it
pub data ComesBefore (first : ℕ) (one : ℕ) (other : ℕ) : Type 0 where
  onward : first ≤ one → one < other → ComesBefore first one other
  around : first ≤ one → other < first → ComesBefore first one other
  behind : one < other → other < first → ComesBefore first one other

-- a slot that is awake waits there too, and is tried before this one
pub record IsPreceded (p : Plan) (t : TaskSet) (of : List Slot) (first : ℕ) (awake : List Bool) (object place : ℕ) : Type 0 where
  pub other : ℕ
  pub slot : Slot
  pub found : slice_get of other ≡ Some slot
  pub is_awake : slice_get awake other ≡ Some true
  pub waits : WaitsAt p t slot object
  pub before : ComesBefore first other place

-- why a slot that waits there may sleep: the last entry has just touched the object, which is settled next; or nobody may enter; or it is
-- not its turn
abbrev pub MaySleep : Plan → TaskSet → List Object → (touched : Option ℕ) → List Slot → (first : ℕ) → (awake : List Bool) → (object place : ℕ) → Type 0
MaySleep p t objects touched of first awake object place = (touched ≡ Some object) ⊎ (IsClosedAt p objects object ⊎ IsPreceded p t of first awake object place)

-- the slot at this place sleeps, and waits at the area that is recorded
pub record IsWaiting (p : Plan) (t : TaskSet) (objects : List Object) (touched : Option ℕ) (of : List Slot) (first : ℕ) (awake : List Bool) (areas : List ℕ) (place : ℕ) : Type 0 where
  pub slot : Slot
  pub found : slice_get of place ≡ Some slot
  pub asleep : slice_get awake place ≡ Some false
  pub object : ℕ
  pub listed : slice_get areas place ≡ Some object
  pub waits : WaitsAt p t slot object
  pub why : MaySleep p t objects touched of first awake object place

-- each slot that is said to wait does so
abbrev pub WaitersHeld : Plan → TaskSet → List Object → (touched : Option ℕ) → List Slot → (first : ℕ) → AwakeState → Type 0
WaitersHeld p t objects touched of first a = (i : ℕ) → slice_get a.waiting i ≡ Some true → IsWaiting p t objects touched of first a.slots a.areas i

-- ---- all of it

-- what sleeps is held, in the order of slots from the first on. `touched` is the object that an entry has just touched and of which the
-- waiting activations have not been told; None if there is none
pub record AreHeld (p : Plan) (t : TaskSet) (objects : List Object) (touched : Option ℕ) (of : List Slot) (first : ℕ) (a : AwakeState) : Type 0 where
  pub starts : StartsHeld p t objects of a
  pub waiters : WaitersHeld p t objects touched of first a

-- if a bench tells its objects
abbrev pub HeldTold : Plan → TaskSet → Option (List Object) → (touched : Option ℕ) → List Slot → (first : ℕ) → AwakeState → Type 0
HeldTold p t None touched slots first a = Unit {0}
HeldTold p t (Some objects) touched slots first a = AreHeld p t objects touched slots first a

-- after a turn: by the objects as they were before it. If it made an entry, those that wait at the area which it touched are to be told
abbrev pub HeldTurned : Plan → TaskSet → Option (List Object) → CoreState → AwakeState → (xs ys : List Stamped) → Turned → Type 0
HeldTurned p t o new a xs ys Stepped = (s : Stamped) → ys ≡ xs ++ s ∷ [] → HeldTold p t o (touched_by p (noting_of s)) new.slots a.first a
HeldTurned p t o new a xs ys NothingNow = HeldTold p t o None new.slots a.first a
HeldTurned p t o new a xs ys (Contended object) = HeldTold p t o None new.slots a.first a

-- so after looks at slots, the next of which begin at this one
abbrev pub HeldPassed : Plan → TaskSet → Option (List Object) → List Slot → (to : ℕ) → AwakeState → (xs ys : List Stamped) → Passed → Type 0
HeldPassed p t o slots to a xs ys (pass.Made at) = (s : Stamped) → ys ≡ xs ++ s ∷ [] → HeldTold p t o (touched_by p (noting_of s)) slots (suc at) a
HeldPassed p t o slots to a xs ys pass.Nothing = HeldTold p t o None slots to a
HeldPassed p t o slots to a xs ys (pass.Contended object) = HeldTold p t o None slots to a

-- ---- a slot falls asleep

-- with these flags of slots, of those that wait, and these areas
abbrev pub with_slots : AwakeState → (slots waiting : List Bool) → (areas : List ℕ) → AwakeState
with_slots a slots waiting areas = record { slots = slots; events = a.events; waiting = waiting; areas = areas; first = a.first }

-- an activation waits at an area, which is recorded
pub record FallsAsleep (p : Plan) (t : TaskSet) (s : Slot) (place : ℕ) (old new : AwakeState) : Type 0 where
  pub object : ℕ
  pub waits : WaitsAt p t s object
  pub changed : new ≡ with_slots old (set old.slots place false) (set old.waiting place true) (set old.areas place object)

-- an activation waits for an answer
pub record FallsDeaf (p : Plan) (t : TaskSet) (s : Slot) (place : ℕ) (old new : AwakeState) : Type 0 where
  pub point : ℕ
  pub hears : HearsAt p t s point
  pub changed : new ≡ with_slots old (set old.slots place false) old.waiting old.areas

-- a slot of which nothing may come sleeps if nothing runs in it, and may sleep if its activation waits at an area or for an answer
abbrev pub IsSettled : Plan → TaskSet → (s : Slot) → (free : Bool) → (place : ℕ) → (old new : AwakeState) → Type 0
IsSettled p t s true place old new = new ≡ with_slots old (set old.slots place false) old.waiting old.areas
IsSettled p t s false place old new = (new ≡ old) ⊎ (FallsAsleep p t s place old new ⊎ FallsDeaf p t s place old new)

-- ---- the first that waits at an area wakes

-- a slot that sleeps waits at the area that is this object
abbrev pub waits_for : (waiting : List Bool) → (areas : List ℕ) → (object place : ℕ) → Bool
waits_for waiting areas object place = slice_index_or waiting place false && (slice_index_or areas place 0 == object)

-- none of them from one place up to another does
abbrev pub NoneWaits : (waiting : List Bool) → (areas : List ℕ) → (object from to : ℕ) → Type 0
NoneWaits waiting areas object from to = (i : ℕ) → from ≤ i → i < to → waits_for waiting areas object i ≡ false

-- the first of them that does
pub record IsFirstThere (waiting : List Bool) (areas : List ℕ) (object from to place : ℕ) : Type 0 where
  pub begun : from ≤ place
  pub within : place < to
  pub inside : place < length waiting
  pub waits : waits_for waiting areas object place ≡ true
  pub none : NoneWaits waiting areas object from place

abbrev pub IsNextWaiter : (waiting : List Bool) → (areas : List ℕ) → (object from to : ℕ) → Option ℕ → Type 0
IsNextWaiter waiting areas object from to None = NoneWaits waiting areas object from to
IsNextWaiter waiting areas object from to (Some place) = IsFirstThere waiting areas object from to place

-- the first of a core's, in the order in which its next turn looks at them
pub record IsFirstWaiter (a : AwakeState) (object place : ℕ) : Type 0 where
  pub inside : place < length a.waiting
  pub waits : waits_for a.waiting a.areas object place ≡ true
  pub none : (i : ℕ) → ComesBefore a.first i place → waits_for a.waiting a.areas object i ≡ false

abbrev pub FirstIs : AwakeState → (object : ℕ) → Option ℕ → Type 0
FirstIs a object None = (i : ℕ) → waits_for a.waiting a.areas object i ≡ false
FirstIs a object (Some place) = IsFirstWaiter a object place

-- that one wakes
abbrev pub woken_at : AwakeState → Option ℕ → AwakeState
woken_at a None = a
woken_at a (Some place) = with_slots a (set a.slots place true) (set a.waiting place false) a.areas

-- it is awake now, and nothing else has changed
pub record FirstWakes (object : ℕ) (old new : AwakeState) (which : Option ℕ) : Type 0 where
  pub first : FirstIs old object which
  pub changed : new ≡ woken_at old which

-- ---- all wakes

abbrev pub AllAre : Bool → List Bool → Type 0
AllAre b flags = (i : ℕ) (x : Bool) → slice_get flags i ≡ Some x → x ≡ b

-- the slot at a place is awake with all its events, and does not wait; nothing else has changed
pub record WakesSlot (place : ℕ) (old new : AwakeState) : Type 0 where
  pub slots : new.slots ≡ set old.slots place true
  pub waiting : new.waiting ≡ set old.waiting place false
  pub row : List Bool
  pub events : new.events ≡ set old.events place row
  pub width : length row ≡ length (slice_index_or old.events place [])
  pub all : AllAre true row
  pub areas : new.areas ≡ old.areas

-- ---- how many looks it takes to see that nothing of what is awake may come

-- at the slot of a place, if it is awake
abbrev pub looks_at_place : Plan → List Slot → AwakeState → (place : ℕ) → ℕ
looks_at_place p slots a i = if slice_index_or a.slots i false then option_map_or (λ (s : Slot). looks_awake p s (flags (slice_index_or a.events i []))) (slice_get slots i) 0 else 0

-- at all of a core's
abbrev pub looks_of_awake : Plan → List Slot → AwakeState → ℕ
looks_of_awake p slots a = sum_below (looks_at_place p slots a) (length slots)

-- if a turn found nothing, so many looks answered NotYet
abbrev pub TurnCounted : (looks : ℕ) → (old new : Option Work) → Turned → Type 0
TurnCounted n old new NothingNow = IsFurther old new [] n 0
TurnCounted n old new r = Unit {0}

-- so where looks from one place up to another found nothing
abbrev pub PassCounted : (looks : ℕ) → (old new : Option Work) → Passed → Type 0
PassCounted n old new pass.Nothing = IsFurther old new [] n 0
PassCounted n old new r = Unit {0}

-- before a place the same is awake
pub record SameBefore (place : ℕ) (old new : AwakeState) : Type 0 where
  pub slots : (i : ℕ) → i < place → slice_index_or new.slots i false ≡ slice_index_or old.slots i false
  pub events : (i : ℕ) → i < place → slice_index_or new.events i [] ≡ slice_index_or old.events i []
