-- A slot stands for a history: each activation that runs in its task has a frame that stands for it; a caller is held back while its direct
-- activation has not ended. Histories stand the newest first.
use Rattle.std.specs.Prelude.{◌≡◌, ℕ, List, true, false, Option, Some, None}
use Rattle.bus_semantics.specs.Common.{Value, ActKey, words_of, Plan, History, runs, Activation, activation_of, direct_key, asked_last, ended_since, is_held_back}
use Rattle.bus_semantics.specs.declared.entries.Deed.TheVariants as deed
use Rattle.task_machine.specs.declared.instr.TaskSet.{TaskSet}
use Rattle.task_machine.specs.Standing.{Standing}
use Rattle.task_machine.specs.Frames.{Stands}
use Rattle.task_slots.specs.declared.slot.Slot.{Slot}
use Rattle.task_slots.specs.declared.slot.Slot.TheVariants as slot
use Rattle.task_slots.specs.declared.slot.TaskSlot.{TaskSlot}
use Rattle.task_slots.specs.declared.slot.Call.{Call}
use Rattle.task_slots.specs.declared.slot.Activity.{Activity}
use Rattle.task_slots.specs.declared.slot.Activity.TheVariants.{Free, Runs, Calls, Serves}
use Rattle.task_slots.specs.Slots.{is_key_of, is_running}

-- a frame stands for the current activation of a key: its Start and the answers since
pub record StandsFor (t : TaskSet) (g : History) (f : Standing) (k : ActKey) : Type 0 where
  pub activation : Activation
  pub current : activation_of k g ≡ Some activation
  pub point : Option ℕ
  pub value : Value
  pub words : words_of value ≡ activation.start
  pub stands : Stands t k (deed.Start activation.event point value) activation.deeds f

-- an activation goes on
pub record GoesOn (p : Plan) (t : TaskSet) (g : History) (f : Standing) (k : ActKey) : Type 0 where
  pub frame : StandsFor t g f k
  pub free : is_held_back p g k ≡ false

-- a caller is held back: its last entry is the ask at the point of the direct activation, which has not ended since
pub record IsHeldBack (p : Plan) (t : TaskSet) (g : History) (f : Standing) (c : Call) : Type 0 where
  pub frame : StandsFor t g f c.caller
  pub point : ℕ
  pub serves : direct_key p point ≡ Some c.direct
  pub asked : asked_last c.caller g ≡ Some point
  pub waits : ended_since c.caller c.direct g ≡ false

-- the direct activation runs, and has made no call
pub record Works (t : TaskSet) (g : History) (inner : Standing) (direct : ActKey) : Type 0 where
  pub frame : StandsFor t g inner direct
  pub alone : asked_last direct g ≡ None

abbrev pub ActivityStands : Plan → TaskSet → History → (frame inner : Standing) → Activity → Type 0
ActivityStands p t g frame inner Free = Unit {0}
ActivityStands p t g frame inner (Runs k) = GoesOn p t g frame k
ActivityStands p t g frame inner (Calls c) = IsHeldBack p t g frame c
ActivityStands p t g frame inner (Serves c) = IsHeldBack p t g frame c × Works t g inner c.direct

-- of the task's keys those run whose activations it has
pub record TaskStands (p : Plan) (t : TaskSet) (g : History) (events : List ℕ) (frame inner : Standing) (a : Activity) : Type 0 where
  pub one : (k : ActKey) → is_key_of p events k ≡ true → runs k g ≡ is_running k a
  pub doing : ActivityStands p t g frame inner a

abbrev pub TaskSlotStands : Plan → TaskSet → History → TaskSlot → Type 0
TaskSlotStands p t g s = TaskStands p t g s.events.items s.frame s.inner s.activity

-- a machine keeps nothing between its phases
abbrev pub SlotStands : Plan → TaskSet → History → Slot → Type 0
SlotStands p t g (slot.Task s) = TaskSlotStands p t g s
SlotStands p t g (slot.Machine n) = Unit {0}
