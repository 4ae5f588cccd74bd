-- Slots that may sleep: a free task of whose events none may start, a machine whose next phase is held (SWS_RTE: mode machine instance), and
-- an activation that waits at an exclusive area (SWS_RTE: Rte_Enter) or for an answer (SWS_RTE: Rte_Call).
use Rattle.std.specs.Prelude.{◌≡◌, ◌<◌, ◌≤◌, ◌+◌, ◌&&◌, ℕ, zero, suc, List, [], ◌∷◌, length, Bool, true, false, if◌then◌else◌, Option, Some, None, slice_get, slice_index_or}
use Rattle.bus_semantics.specs.Common.{ActKey, Plan, to_enter, to_hear, to_move_on, object_of, wish_fits, Try, gathered, start_try}
use Rattle.bus_semantics.specs.declared.entries.Actor.TheVariants.{Act, Machine}
use Rattle.port_objects.specs.declared.object.Object.{Object}
use Rattle.task_machine.specs.declared.instr.TaskSet.{TaskSet}
use Rattle.task_machine.specs.Standing.{Standing}
use Rattle.task_slots.specs.declared.slot.Slot.{Slot}
use Rattle.task_slots.specs.declared.slot.Slot.TheVariants as slot
use Rattle.task_slots.specs.declared.slot.Activity.{Activity}
use Rattle.task_slots.specs.declared.slot.Activity.TheVariants.{Free}
use Rattle.task_slots.specs.Slots.{asked_by, slot_tries, is_key_of, events_of_slot, waits}
use Rattle.task_slots.specs.Looking.{AllHeld}

-- ---- events that sleep

-- the events for which these flags stand are awake
abbrev pub flags : (row : List Bool) → (place : ℕ) → Bool
flags row i = slice_index_or row i false

-- no event from one place up to another is awake
abbrev pub NoneAwake : (awake : ℕ → Bool) → (from to : ℕ) → Type 0
NoneAwake awake from to = (i : ℕ) → from ≤ i → i < to → awake i ≡ false

-- the event at this place is the first of them that is
pub record IsFirstAwake (awake : ℕ → Bool) (from to at : ℕ) : Type 0 where
  pub behind : from ≤ at
  pub within : at < to
  pub chosen : awake at ≡ true
  pub none : NoneAwake awake from at

-- the first of them that is, if there is one
abbrev pub IsNextAwake : (awake : ℕ → Bool) → (from to : ℕ) → Option ℕ → Type 0
IsNextAwake awake from to None = NoneAwake awake from to
IsNextAwake awake from to (Some at) = IsFirstAwake awake from to at

-- if a bench tells its objects: no event of one slot that sleeps may start
abbrev pub EventsHeld : Plan → Option (List Object) → (events : List ℕ) → (awake : ℕ → Bool) → Type 0
EventsHeld p None events awake = Unit {0}
EventsHeld p (Some objects) events awake = (j e : ℕ) → slice_get events j ≡ Some e → awake j ≡ false → AllHeld p objects (start_try p e)

-- an activation asks to enter the area which is this object
pub record AsksAt (p : Plan) (t : TaskSet) (key : ActKey) (f : Standing) (object : ℕ) : Type 0 where
  pub area : ℕ
  pub asks : asked_by t f ≡ Some (to_enter area)
  pub fits : wish_fits p (Act key) (to_enter area) ≡ true
  pub there : object_of p (Act key) (to_enter area) ≡ Some object

-- nothing runs in a task
abbrev pub is_free_task : Activity → Bool
is_free_task Free = true
is_free_task a = false

-- nor in a machine's slot
abbrev pub is_free : Slot → Bool
is_free (slot.Task s) = is_free_task s.activity
is_free (slot.Machine n) = true

-- what a slot tries in which nothing runs: the starts of its events, or the machine's next phase
abbrev pub idle_tries : Plan → Slot → List Try
idle_tries p (slot.Task s) = gathered (start_try p) s.events.items
idle_tries p (slot.Machine n) = (Machine n, to_move_on) ∷ []

-- all that a slot tries is that an activation enters the area which is this object
pub record WaitsAt (p : Plan) (t : TaskSet) (s : Slot) (object : ℕ) : Type 0 where
  pub key : ActKey
  pub area : ℕ
  pub tries : slot_tries p t s ≡ (Act key, to_enter area) ∷ []
  pub fits : wish_fits p (Act key) (to_enter area) ≡ true
  pub there : object_of p (Act key) (to_enter area) ≡ Some object

-- an activation asks for the answer at a point, which is joined
pub record AsksToHear (p : Plan) (t : TaskSet) (key : ActKey) (f : Standing) (point : ℕ) : Type 0 where
  pub asks : asked_by t f ≡ Some (to_hear point)
  pub fits : wish_fits p (Act key) (to_hear point) ≡ true
  pub object : ℕ
  pub there : object_of p (Act key) (to_hear point) ≡ Some object

-- all that a slot tries is the Answer at a point, for an activation that one of the task's events started
pub record HearsAt (p : Plan) (t : TaskSet) (s : Slot) (point : ℕ) : Type 0 where
  pub key : ActKey
  pub tries : slot_tries p t s ≡ (Act key, to_hear point) ∷ []
  pub fits : wish_fits p (Act key) (to_hear point) ≡ true
  pub object : ℕ
  pub there : object_of p (Act key) (to_hear point) ≡ Some object
  pub plain : key.point ≡ None
  pub own : is_key_of p (events_of_slot s) key ≡ true

-- ---- how many looks it takes at what is awake

-- the sum of a number of each place below one
abbrev pub sum_below : (each : ℕ → ℕ) → (places : ℕ) → ℕ
sum_below f zero = 0
sum_below f (suc n) = sum_below f n + f n

-- one look at the event of a place if it is awake and has an object
abbrev pub event_looks : Plan → (events : List ℕ) → (awake : ℕ → Bool) → (place : ℕ) → ℕ
event_looks p events awake i = if awake i && waits p (slice_index_or events i 0) then 1 else 0

abbrev pub row_looks : Plan → (events : List ℕ) → (awake : ℕ → Bool) → ℕ
row_looks p events awake = sum_below (event_looks p events awake) (length events)

-- of a free task so many looks; else one
abbrev pub task_looks_awake : Plan → (events : List ℕ) → (awake : ℕ → Bool) → Activity → ℕ
task_looks_awake p events awake Free = row_looks p events awake
task_looks_awake p events awake a = 1

-- of a slot whose events these are awake
abbrev pub looks_awake : Plan → Slot → (awake : ℕ → Bool) → ℕ
looks_awake p (slot.Task s) awake = task_looks_awake p s.events.items awake s.activity
looks_awake p (slot.Machine n) awake = 1
