-- A slot that can step: its events are of a task, and each activation that runs in it was answered what it asked, and asks something.
use Rattle.std.specs.Prelude.{◌≡◌, ◌<◌, ℕ, zero, ℤ, List, length, nat_lt, Bool, true, ◌&&◌, ◌==◌, is_some, Option, Some, None, slice_get}
use Rattle.bus_semantics.specs.Common.{list_all, Value, ActKey, words_of, Plan, Runnable, runnable_of_event, server_of, caller_of, kind_of, key_fits, times_mapped, Wanted}
use Rattle.bus_semantics.specs.declared.entries.Deed.{Deed}
use Rattle.bus_semantics.specs.declared.entries.Deed.TheVariants as deed
use Rattle.history_laws.specs.Followed.{Followed}
use Rattle.task_machine.specs.declared.instr.TaskSet.{TaskSet}
use Rattle.task_machine.specs.Standing.{Standing}
use Rattle.task_machine.specs.Frames.{Stands, IsMadeFor}
use Rattle.task_generator.specs.Promise.{next_until_over}
use Rattle.task_slots.specs.declared.slot.Slot.{Slot}
use Rattle.task_slots.specs.declared.slot.Slot.TheVariants as slot
use Rattle.task_slots.specs.declared.slot.TaskSlot.{TaskSlot}
use Rattle.task_slots.specs.declared.slot.Call.{Call}
use Rattle.task_slots.specs.declared.slot.Activity.{Activity}
use Rattle.task_slots.specs.declared.slot.Activity.TheVariants.{Free, Runs, Calls, Serves}
use Rattle.task_slots.specs.Direct.{call_at}
use Rattle.task_slots.specs.Slots.{is_key_of}

-- an event of the plan that a mapping has in a task: it invokes no direct server (SWS_RTE: mapping of RTEEvents to tasks)
abbrev pub may_be_mapped : Plan → (event : ℕ) → Bool
may_be_mapped p e = nat_lt e (length p.events) && (times_mapped p (kind_of p e) == 1)

-- ---- an activation

-- an ask is accepted at joined points alone
abbrev pub is_answered : Plan → Deed → Bool
is_answered p (deed.Ask q value zero) = is_some (server_of p q)
is_answered p _ = true

-- the activation of a key, by an event of its runnable, was answered what it asked, and asks this before its end
pub record IsAsking (p : Plan) (k : ActKey) (r : Runnable) (event : ℕ) (start : List ℤ) (answers : List Deed) (wish : Wanted) : Type 0 where
  pub there : slice_get p.runnables k.runnable ≡ Some r
  pub starts : runnable_of_event p event ≡ Some k.runnable
  pub followed : Followed p r event start answers
  pub answered : list_all (is_answered p) answers ≡ true
  pub next : next_until_over p r event start answers ≡ Some wish

-- the activation of a key that fits, begun and after some answers
pub record IsBegun (p : Plan) (t : TaskSet) (f : Standing) (k : ActKey) : Type 0 where
  pub fits : key_fits p k ≡ true
  pub runnable : Runnable
  pub event : ℕ
  pub point : Option ℕ
  pub value : Value
  pub answers : List Deed
  pub wish : Wanted
  pub asks : IsAsking p k runnable event (words_of value) answers wish
  pub stands : Stands t k (deed.Start event point value) answers f

-- ---- what runs in a task

-- an activation that one of the task's events started
pub record IsRunning (p : Plan) (t : TaskSet) (events : List ℕ) (f : Standing) (k : ActKey) : Type 0 where
  pub plain : k.point ≡ None
  pub own : is_key_of p events k ≡ true
  pub begun : IsBegun p t f k

-- a call at a point of the caller's own
pub record IsCalled (p : Plan) (c : Call) : Type 0 where
  pub point : ℕ
  pub is : call_at p c.caller point ≡ Some c
  pub calls : caller_of p point ≡ Some c.caller.runnable

-- its direct activation runs
pub record IsServing (p : Plan) (t : TaskSet) (inner : Standing) (c : Call) : Type 0 where
  pub called : IsCalled p c
  pub begun : IsBegun p t inner c.direct

abbrev pub IsActive : Plan → TaskSet → (events : List ℕ) → (frame inner : Standing) → Activity → Type 0
IsActive p t events frame inner Free = Unit {0}
IsActive p t events frame inner (Runs k) = IsRunning p t events frame k
IsActive p t events frame inner (Calls c) = IsRunning p t events frame c.caller × IsCalled p c
IsActive p t events frame inner (Serves c) = IsRunning p t events frame c.caller × IsServing p t inner c

-- ---- slots

-- the events are of a task, and the frames were made for the bodies
pub record IsReadyTask (p : Plan) (t : TaskSet) (s : TaskSlot) : Type 0 where
  pub mapped : list_all (may_be_mapped p) s.events.items ≡ true
  pub made : IsMadeFor t s.frame
  pub made_inner : IsMadeFor t s.inner
  pub active : IsActive p t s.events.items s.frame s.inner s.activity

abbrev pub IsReadySlot : Plan → TaskSet → Slot → Type 0
IsReadySlot p t (slot.Task s) = IsReadyTask p t s
IsReadySlot p t (slot.Machine n) = n < length p.machines
