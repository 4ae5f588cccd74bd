-- What comes of a look at a slot: one entry, and what the slot stands for then; or nothing.
use Rattle.std.specs.Prelude.{◌≡◌, ◌⊎◌, ℕ, List, [], ◌∷◌, ◌++◌, true, None}
use Rattle.bus_semantics.specs.Common.{ActKey, Plan, History, Noted, note, noted, touched_by, follows_program, Answers, is_proper}
use Rattle.bus_laws.specs.Common.{Actor, Machine, Act, Deed, Stamped}
use Rattle.task_machine.specs.declared.instr.TaskSet.{TaskSet}
use Rattle.task_machine.specs.Standing.{Standing}
use Rattle.task_machine.specs.Frames.{Stands}
use Rattle.task_slots.specs.declared.slot.Slot.{Slot}
use Rattle.task_slots.specs.declared.slot.Slot.TheVariants as slot
use Rattle.task_slots.specs.declared.slot.TaskSlot.{TaskSlot}
use Rattle.task_slots.specs.declared.slot.Call.{Call}
use Rattle.task_slots.specs.declared.slot.Activity.TheVariants.{Runs, Serves}
use Rattle.task_slots.specs.Look.{Look}
use Rattle.task_slots.specs.Look as look
use Rattle.task_slots.specs.Direct.{after_deed, after_inside}
use Rattle.task_slots.specs.Slots.{is_key_of, table_of}
use Rattle.task_slots.specs.Ready.{IsReadySlot}
use Rattle.task_slots.specs.Standing.{SlotStands}

-- ---- frames

-- a frame has the room of another
pub record HasRoomOf (old new : Standing) : Type 0 where
  pub room : new.room ≡ old.room
  pub counters_room : new.counters_room ≡ old.counters_room

-- a frame has heard an answer
abbrev pub Fed : TaskSet → Deed → (old new : Standing) → Type 0
Fed t d old new = (k : ActKey) (start : Deed) (answers : List Deed) → Stands t k start answers old → Stands t k start (answers ++ d ∷ []) new

-- an activation has begun in a frame
pub record FrameBegun (t : TaskSet) (k : ActKey) (start : Deed) (old new : Standing) : Type 0 where
  pub room : HasRoomOf old new
  pub stands : Stands t k start [] new

-- ---- a task after an entry

-- after a start by one of its events
pub record BegunBy (t : TaskSet) (k : ActKey) (start : Deed) (old new : TaskSlot) : Type 0 where
  pub events : new.events ≡ old.events
  pub activity : new.activity ≡ Runs k
  pub frame : FrameBegun t k start old.frame new.frame
  pub inner : new.inner ≡ old.inner

-- after the start of the direct activation that is called
pub record ServedBy (t : TaskSet) (c : Call) (start : Deed) (old new : TaskSlot) : Type 0 where
  pub events : new.events ≡ old.events
  pub activity : new.activity ≡ Serves c
  pub frame : new.frame ≡ old.frame
  pub inner : FrameBegun t c.direct start old.inner new.inner

-- after an answer to the activation that goes on
pub record Heard (p : Plan) (t : TaskSet) (k : ActKey) (d : Deed) (old new : TaskSlot) : Type 0 where
  pub events : new.events ≡ old.events
  pub activity : new.activity ≡ after_deed p k d
  pub room : HasRoomOf old.frame new.frame
  pub fed : Fed t d old.frame new.frame
  pub inner : new.inner ≡ old.inner

-- after an answer to the direct activation
pub record HeardInside (t : TaskSet) (c : Call) (d : Deed) (old new : TaskSlot) : Type 0 where
  pub events : new.events ≡ old.events
  pub activity : new.activity ≡ after_inside c d
  pub frame : new.frame ≡ old.frame
  pub room : HasRoomOf old.inner new.inner
  pub fed : Fed t d old.inner new.inner

-- ---- a slot steps

-- an entry with the event with which it was stamped
abbrev pub noting_of : Stamped → Noted
noting_of s = record { entry = s.entry; event = s.event }

-- neither an entry as it was stamped touches an object, nor with the event of its activation
pub record IsApart (p : Plan) (g : History) (s : Stamped) : Type 0 where
  pub stamped : touched_by p (noting_of s) ≡ None
  pub named : touched_by p (note g s.entry) ≡ None

-- the entry follows its actor's program; if it touches no object it is what the bus answers; it came with the event of its activation, or
-- touches no object; and the slot then stands for it too
pub record StepFollows (p : Plan) (t : TaskSet) (g : History) (after : Slot) (s : Stamped) : Type 0 where
  pub rule : follows_program p g s.entry.actor s.entry.deed ≡ true
  pub free : touched_by p (note g s.entry) ≡ None → Answers p (noted g) (note g s.entry)
  pub noting : (note g s.entry ≡ noting_of s) ⊎ IsApart p g s
  pub stands : SlotStands p t (s.entry ∷ g) after

-- the actor is of the slot: an activation of the task, or the machine
pub record IsOfTask (p : Plan) (events : List ℕ) (a : Actor) : Type 0 where
  pub key : ActKey
  pub is : a ≡ Act key
  pub own : is_key_of p events key ≡ true

abbrev pub IsOwn : Plan → Slot → Actor → Type 0
IsOwn p (slot.Task s) a = IsOfTask p s.events.items a
IsOwn p (slot.Machine n) a = a ≡ Machine n

-- the entry is the slot's, fits, and follows each history for which the slot stands
pub record SlotStep (p : Plan) (t : TaskSet) (old new : Slot) (s : Stamped) : Type 0 where
  pub own : IsOwn p old s.entry.actor
  pub proper : is_proper p (noting_of s) ≡ true
  pub table : table_of new ≡ table_of old
  pub ready : IsReadySlot p t new
  pub follows : (g : History) → SlotStands p t g old → StepFollows p t g new s

-- after a look: it stepped, or is as it was
abbrev pub SlotLooked : Plan → TaskSet → (old new : Slot) → Look → Type 0
SlotLooked p t old new (look.Made s) = SlotStep p t old new s
SlotLooked p t old new l = new ≡ old
