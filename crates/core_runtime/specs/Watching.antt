-- What of the cores may step, and where the events stand on them.
use Rattle.std.specs.Prelude.{◌≡◌, ◌<◌, ◌+◌, ◌⊎◌, ℕ, List, [], map, length, set, slice_get, slice_index_or, Bool, true, false, not, ◌&&◌, ◌||◌, Option, Some, None, Vec}
use Rattle.bus_semantics.specs.Common.{Global, Contains, Plan, runnable_of_event, Noted, touched_by, machine_object}
use Rattle.bus_semantics.specs.declared.entries.Deed.{Deed}
use Rattle.bus_semantics.specs.declared.entries.Deed.TheVariants as deed
use Rattle.port_objects.specs.declared.object.Object.{Object}
use Rattle.port_objects.specs.Common.{Kept, lead, kept_of, may_start_in, heard_in, Tells, TellsPoint}
use Rattle.task_machine.specs.declared.instr.TaskSet.{TaskSet}
use Rattle.task_slots.specs.declared.slot.Slot.{Slot}
use Rattle.task_slots.specs.declared.slot.Slot.TheVariants as slot
use Rattle.core_turn.specs.Cores.{CoreState}
use Rattle.task_slots.specs.Slots.{Table, of_machine, table_of, events_of_slot}
use Rattle.task_slots.specs.Waiting.{HearsAt}
use Rattle.core_turn.specs.Awake.{AwakeState, Fits, IsOver, StartsHeld, WaitersHeld}
use Rattle.core_runtime.specs.declared.seats.Seat.{Seat}
use Rattle.core_runtime.specs.declared.watch.Watch.{Watch}

-- ---- seats

-- the events of each task of each core
abbrev pub tables_of : List CoreState → List (List (List ℕ))
tables_of cores = map (λ (c : CoreState). map events_of_slot c.slots) cores

-- the event stands at the seat, a place of this task
pub record IsOfTask (events : List ℕ) (core slot event : ℕ) (s : Seat) : Type 0 where
  pub core_is : s.core ≡ core
  pub slot_is : s.slot ≡ slot
  pub place_is : slice_get events s.place ≡ Some event

-- of one of a core's tasks
pub record IsOfCore (tasks : List (List ℕ)) (core event : ℕ) (s : Seat) : Type 0 where
  pub events : List ℕ
  pub task_is : slice_get tasks s.slot ≡ Some events
  pub seat : IsOfTask events core s.slot event s

-- of one of the cores
pub record IsOfCores (table : List (List (List ℕ))) (event : ℕ) (s : Seat) : Type 0 where
  pub tasks : List (List ℕ)
  pub core_is : slice_get table s.core ≡ Some tasks
  pub seat : IsOfCore tasks s.core event s

-- it stands in the list of the event
pub record IsAt (seats : List (Vec Seat Global)) (event : ℕ) (s : Seat) : Type 0 where
  pub row : Vec Seat Global
  pub at : ℕ
  pub row_is : slice_get seats event ≡ Some row
  pub is : slice_get row.items at ≡ Some s

-- these seats of events were added to the lists, each to that of its event
pub record Adds (these : (event : ℕ) → Seat → Type 0) (old new : List (Vec Seat Global)) : Type 0 where
  pub count : length new ≡ length old
  pub kept : (event : ℕ) (s : Seat) → IsAt old event s → IsAt new event s
  pub added : (event : ℕ) (s : Seat) → these event s → IsAt new event s
  pub only : (event : ℕ) (s : Seat) → IsAt new event s → IsAt old event s ⊎ these event s

-- the lists are the cores': each seat stands in the list of its event, and no other does
pub record AreSeated (table : List (List (List ℕ))) (seats : List (Vec Seat Global)) : Type 0 where
  pub all : (event : ℕ) (s : Seat) → IsOfCores table event s → IsAt seats event s
  pub only : (event : ℕ) (s : Seat) → IsAt seats event s → IsOfCores table event s

-- ---- machines

-- whose slots each core has
abbrev pub owners_of : List CoreState → List (List Table)
owners_of cores = map (λ (c : CoreState). map table_of c.slots) cores

-- the slot of a machine stands on the first core, behind its tasks, in the order of numbers (SWS_RTE: mode machine instance)
abbrev pub AreBehind : Plan → (owners : List (List Table)) → Type 0
AreBehind p owners = (i j machine : ℕ) (tables : List Table) → slice_get owners i ≡ Some tables → slice_get tables j ≡ Some (of_machine machine) → (i ≡ 0) × (j + length p.machines ≡ length tables + machine)

-- ---- callers

-- the event stands in the list of its runnable
pub record IsListed (lists : List (Vec ℕ Global)) (runnable event : ℕ) : Type 0 where
  pub row : Vec ℕ Global
  pub row_is : slice_get lists runnable ≡ Some row
  pub among : Contains row.items event

-- so does each event that starts one of the plan's runnables
pub record AreStarters (p : Plan) (lists : List (Vec ℕ Global)) : Type 0 where
  pub count : length lists ≡ length p.runnables
  pub all : (event runnable : ℕ) → runnable_of_event p event ≡ Some runnable → runnable < length p.runnables → IsListed lists runnable event

-- the event was added to the list of its runnable
pub record IsStarter (p : Plan) (event : ℕ) (old new : List (Vec ℕ Global)) : Type 0 where
  pub count : length new ≡ length old
  pub kept : (runnable other : ℕ) → IsListed old runnable other → IsListed new runnable other
  pub added : (runnable : ℕ) → runnable_of_event p event ≡ Some runnable → runnable < length old → IsListed new runnable event

-- ---- what is awake

-- a core with what of it may start, over these objects
pub record IsWatched (p : Plan) (t : TaskSet) (objects : List Object) (c : CoreState) (a : AwakeState) : Type 0 where
  pub fits : Fits c.slots c.first a
  pub starts : StartsHeld p t objects c.slots a

pub record AreWatched (p : Plan) (t : TaskSet) (objects : List Object) (cores : List CoreState) (awake : List AwakeState) : Type 0 where
  pub count : length awake ≡ length cores
  pub each : (i : ℕ) (c : CoreState) (a : AwakeState) → slice_get cores i ≡ Some c → slice_get awake i ≡ Some a → IsWatched p t objects c a

-- what of each core waits at areas; `touched` is the object that an entry has just touched, of which those that wait there were not told
abbrev pub AreWaiting : Plan → TaskSet → List Object → (touched : Option ℕ) → List CoreState → List AwakeState → Type 0
AreWaiting p t objects touched cores awake = (i : ℕ) (c : CoreState) (a : AwakeState) → slice_get cores i ≡ Some c → slice_get awake i ≡ Some a → WaitersHeld p t objects touched c.slots a.first a

-- each core is watched, the seats are theirs, and the machines stand behind the tasks
pub record IsWatch (p : Plan) (t : TaskSet) (objects : List Object) (touched : Option ℕ) (cores : List CoreState) (w : Watch) : Type 0 where
  pub awake : AreWatched p t objects cores w.awake.items
  pub waiting : AreWaiting p t objects touched cores w.awake.items
  pub seated : AreSeated (tables_of cores) w.seats.items
  pub behind : AreBehind p (owners_of cores)
  pub starters : AreStarters p w.starters.items

-- no start by the event at a seat may come
abbrev pub IsOverAt : Plan → List Object → List CoreState → Seat → Type 0
IsOverAt p objects cores s = (c : CoreState) → slice_get cores s.core ≡ Some c → IsOver p objects c.slots s.slot s.place

-- over all objects the cores are watched, if all is awake
abbrev pub AllWatched : List CoreState → List AwakeState → Type 0
AllWatched cores awake = (p : Plan) (t : TaskSet) (objects : List Object) → AreWatched p t objects cores awake × AreWaiting p t objects None cores awake

-- ---- all awake after a round of several cores

-- made for these cores
pub record AreShaped (cores : List CoreState) (awake : List AwakeState) : Type 0 where
  pub count : length awake ≡ length cores
  pub each : (i : ℕ) (c : CoreState) (a : AwakeState) → slice_get cores i ≡ Some c → slice_get awake i ≡ Some a → Fits c.slots c.first a

-- each core has the tasks that it had
abbrev pub HaveSameTasks : (old new : List CoreState) → Type 0
HaveSameTasks old new = owners_of new ≡ owners_of old

-- ---- waking

-- the event at a place of a slot is awake, and the slot
abbrev pub is_awake : AwakeState → (slot place : ℕ) → Bool
is_awake a slot place = slice_index_or a.slots slot false && slice_index_or (slice_index_or a.events slot []) place false

-- the flags of those that wait, and their areas, are as many as the slots
pub record IsEven (a : AwakeState) : Type 0 where
  pub waiting : length a.waiting ≡ length a.slots
  pub areas : length a.areas ≡ length a.slots

abbrev pub AreEven : List AwakeState → Type 0
AreEven awake = (i : ℕ) (a : AwakeState) → slice_get awake i ≡ Some a → IsEven a

-- what was awake is so still, and what sleeps is held as it was
pub record IsWoken (a b : AwakeState) : Type 0 where
  pub count : length b.slots ≡ length a.slots
  pub rows : length b.events ≡ length a.events
  pub widths : (i : ℕ) → length (slice_index_or b.events i []) ≡ length (slice_index_or a.events i [])
  pub slots : (i : ℕ) → slice_index_or a.slots i false ≡ true → slice_index_or b.slots i false ≡ true
  pub events : (i j : ℕ) → slice_index_or (slice_index_or a.events i []) j false ≡ true → slice_index_or (slice_index_or b.events i []) j false ≡ true
  pub even : IsEven a → IsEven b
  pub fits : (of : List Slot) (first : ℕ) → Fits of first a → Fits of first b
  pub starts : (p : Plan) (t : TaskSet) (objects : List Object) (of : List Slot) → StartsHeld p t objects of a → StartsHeld p t objects of b
  pub waiters : (p : Plan) (t : TaskSet) (objects : List Object) (touched : Option ℕ) (of : List Slot) → WaitersHeld p t objects touched of a.first a → WaitersHeld p t objects touched of b.first b

pub record AreWoken (old new : List AwakeState) : Type 0 where
  pub count : length new ≡ length old
  pub each : (i : ℕ) (a b : AwakeState) → slice_get old i ≡ Some a → slice_get new i ≡ Some b → IsWoken a b

-- the area that is this object was left: what sleeps is held as it was, and who waits there may sleep on, whatever the object is now
pub record IsWokenAt (object : ℕ) (a b : AwakeState) : Type 0 where
  pub fits : (of : List Slot) (first : ℕ) → Fits of first a → Fits of first b
  pub starts : (p : Plan) (t : TaskSet) (objects : List Object) (of : List Slot) → StartsHeld p t objects of a → StartsHeld p t objects of b
  pub waiters : (p : Plan) (t : TaskSet) (objects : List Object) (of : List Slot) (left : Object) → WaitersHeld p t objects (Some object) of a.first a → WaitersHeld p t (set objects object left) None of b.first b

pub record AreWokenAt (object : ℕ) (old new : List AwakeState) : Type 0 where
  pub count : length new ≡ length old
  pub each : (i : ℕ) (a b : AwakeState) → slice_get old i ≡ Some a → slice_get new i ≡ Some b → IsWokenAt object a b

-- there is a flag for the seat
pub record IsThere (awake : List AwakeState) (s : Seat) : Type 0 where
  pub core : AwakeState
  pub core_is : slice_get awake s.core ≡ Some core
  pub slot : s.slot < length core.slots
  pub place : s.place < length (slice_index_or core.events s.slot [])
  pub even : IsEven core

-- the slot of the seat is awake
abbrev pub IsUp : List AwakeState → Seat → Type 0
IsUp awake s = (a : AwakeState) → slice_get awake s.core ≡ Some a → slice_index_or a.slots s.slot false ≡ true

-- at the seat the event is awake, or no start by it may come
abbrev pub IsSeen : Kept → List AwakeState → (event : ℕ) → Seat → Type 0
IsSeen k awake event s = (a : AwakeState) → slice_get awake s.core ≡ Some a → (is_awake a s.slot s.place || not (may_start_in k event)) ≡ true

-- ---- what an entry does to the objects

-- the one that it touches changes by the lead, and tells which starts and which Answer came
pub record Touches (p : Plan) (before later : List Object) (n : Noted) : Type 0 where
  pub object : ℕ
  pub touching : touched_by p n ≡ Some object
  pub old : Object
  pub new : Object
  pub found : slice_get before object ≡ Some old
  pub leads : lead p object (kept_of old) n ≡ Some (kept_of new)
  pub told : Tells (kept_of old) new
  pub heard : TellsPoint (kept_of old) new
  pub others : later ≡ set before object new

-- the slot of the machine that it touches is awake
abbrev pub AreRoused : Plan → Noted → List CoreState → List AwakeState → Type 0
AreRoused p n cores awake = (i j machine : ℕ) (c : CoreState) (a : AwakeState) → slice_get cores i ≡ Some c → slice_get awake i ≡ Some a → slice_get c.slots j ≡ Some (slot.Machine machine) → touched_by p n ≡ machine_object p (Some machine)
    → slice_index_or a.slots j false ≡ true

-- the slot of the caller to whose point it returned is awake
abbrev pub AreAnswered : (p : Plan) → TaskSet → (before later : List Object) → (n : Noted) → List CoreState → List AwakeState → Type 0
AreAnswered p t before later n cores awake = (x : Touches p before later n) (i j point : ℕ) (c : CoreState) (a : AwakeState) (s : Slot) → slice_get cores i ≡ Some c → slice_get awake i ≡ Some a → slice_get c.slots j ≡ Some s
    → HearsAt p t s point → heard_in x.new ≡ Some point → slice_index_or a.slots j false ≡ true

-- or it touches none
abbrev pub IsAfter : Plan → (before later : List Object) → Noted → Type 0
IsAfter p before later n = ((touched_by p n ≡ None) × (later ≡ before)) ⊎ Touches p before later n

-- ---- entries that wake nobody

-- what takes a value or a mode as it stands, drops a value or enters an area: it makes no start come, moves no machine, returns to no caller
-- and opens no area (SWS_RTE: Rte_Read, Rte_IsUpdated, Rte_Invalidate, Rte_Receive, Rte_Mode, Rte_Enter)
abbrev pub is_quiet : Deed → Bool
is_quiet (deed.Fetch x value) = true
is_quiet (deed.Read x code value) = true
is_quiet (deed.IsUpdated x updated) = true
is_quiet (deed.Invalidate x) = true
is_quiet (deed.Receive x code value) = true
is_quiet (deed.FetchAll l value) = true
is_quiet (deed.Enter area) = true
is_quiet (deed.Mode port mode) = true
is_quiet _ = false
