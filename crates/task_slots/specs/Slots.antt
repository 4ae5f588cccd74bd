-- A slot of a core: a task with its events by position and what runs in it, or a mode machine (OS: task; SWS_RTE: mapping of RTEEvents to
-- tasks, mode machine instance).
use Rattle.std.specs.Prelude.{ℕ, List, [], ◌∷◌, map, Bool, false, ◌||◌, is_some, Option, Some, None}
use Rattle.bus_semantics.specs.Common.{list_any, ActKey, same_number, same_key, Plan, kind_of, runnable_of_event, caller_of, Wanted, to_start, to_move_on, count, object_of_kind, Try}
use Rattle.bus_semantics.specs.Common.{option_list, gathered, start_try}
use Rattle.bus_semantics.specs.declared.entries.Actor.TheVariants.{Machine, Act}
use Rattle.task_machine.specs.declared.instr.TaskSet.{TaskSet}
use Rattle.task_machine.specs.Frames.{code_of}
use Rattle.task_machine.specs.Machine.{wanted_at}
use Rattle.task_machine.specs.Standing.{Standing}
use Rattle.task_slots.specs.declared.slot.Slot.{Slot}
use Rattle.task_slots.specs.declared.slot.Slot.TheVariants as slot
use Rattle.task_slots.specs.declared.slot.TaskSlot.{TaskSlot}
use Rattle.task_slots.specs.declared.slot.Activity.{Activity}
use Rattle.task_slots.specs.declared.slot.Activity.TheVariants.{Free, Runs, Calls, Serves}

-- ---- keys

-- one of the events starts the runnable
abbrev pub starts : Plan → (runnable : ℕ) → (events : List ℕ) → Bool
starts p r events = list_any (λ e. same_number (runnable_of_event p e) (Some r)) events

-- the runnable in whose task a key's activations run: for a direct one that of its caller
abbrev pub home_by : Plan → (runnable : ℕ) → (point : Option ℕ) → Option ℕ
home_by p r None = Some r
home_by p r (Some q) = caller_of p q

abbrev pub home_of : Plan → ActKey → Option ℕ
home_of p k = home_by p k.runnable k.point

abbrev pub starts_at : Plan → (home : Option ℕ) → (events : List ℕ) → Bool
starts_at p None events = false
starts_at p (Some r) events = starts p r events

-- the key is one of a task with these events
abbrev pub is_key_of : Plan → (events : List ℕ) → ActKey → Bool
is_key_of p events k = starts_at p (home_of p k) events

-- the key is that of an activation that runs in the task
abbrev pub is_running : ActKey → Activity → Bool
is_running k Free = false
is_running k (Runs j) = same_key k j
is_running k (Calls c) = same_key k c.caller
is_running k (Serves c) = same_key k c.caller || same_key k c.direct

-- ---- what a slot tries

-- what a frame asks next
abbrev pub asked_by : TaskSet → Standing → Option Wanted
asked_by t f = wanted_at (code_of t f.key.runnable) f.event f.at

abbrev pub next_tries : TaskSet → ActKey → Standing → List Try
next_tries t k f = map (λ w. (Act k, w)) (option_list (asked_by t f))

-- the deepest activation its next call, or the start that is called; a free task its events in order of position, each with its start
abbrev pub tries_of : Plan → TaskSet → (events : List ℕ) → (frame : Standing) → (inner : Standing) → Activity → List Try
tries_of p t events frame inner Free = gathered (start_try p) events
tries_of p t events frame inner (Runs k) = next_tries t k frame
tries_of p t events frame inner (Calls c) = (Act c.direct, to_start c.event) ∷ []
tries_of p t events frame inner (Serves c) = next_tries t c.direct inner

abbrev pub task_tries : Plan → TaskSet → TaskSlot → List Try
task_tries p t s = tries_of p t s.events.items s.frame s.inner s.activity

-- a machine tries its next phase
abbrev pub slot_tries : Plan → TaskSet → Slot → List Try
slot_tries p t (slot.Task s) = task_tries p t s
slot_tries p t (slot.Machine n) = (Machine n, to_move_on) ∷ []

-- an event that waits for an object
abbrev pub waits : Plan → (event : ℕ) → Bool
waits p e = is_some (object_of_kind p (kind_of p e))

-- how many looks it takes to see that nothing of a slot may come: one for each event of a free task that has an object; else one
abbrev pub looks_of : Plan → (events : List ℕ) → Activity → ℕ
looks_of p events Free = count (waits p) events
looks_of p events a = 1

abbrev pub task_looks : Plan → TaskSlot → ℕ
task_looks p s = looks_of p s.events.items s.activity

abbrev pub looks : Plan → Slot → ℕ
looks p (slot.Task s) = task_looks p s
looks p (slot.Machine n) = 1

-- ---- whose slot it is

-- the events of a task by position, or a machine
pub data Table : Type 0 where
  of_task : (events : List ℕ) → Table
  of_machine : ℕ → Table

abbrev pub table_of : Slot → Table
table_of (slot.Task s) = of_task s.events.items
table_of (slot.Machine n) = of_machine n

-- a machine has no events
abbrev pub listed_in : Table → List ℕ
listed_in (of_task events) = events
listed_in (of_machine n) = []

abbrev pub events_of_slot : Slot → List ℕ
events_of_slot s = listed_in (table_of s)
