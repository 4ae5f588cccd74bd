-- What is kept of a key's activations along a trace, and what it stands for in a history (SWS_RTE: runnable activation; Rte_Call of a server
-- without a queue). Histories stand the newest first, the deeds of an activation the oldest first.
use Rattle.std.specs.Prelude.{◌≡◌, ℕ, List, [], ◌∷◌, ◌++◌, Bool, true, false, Option, Some, None, is_some, option_map, slice_get}
use Rattle.bus_semantics.specs.Common.{list_any, ActKey, Value, words_of, Plan, Wanted, History, runs, is_over, Activation, activation_of, asked_last, is_held_back, may_start, next_wish}
use Rattle.bus_laws.specs.Common.{Act, Deed, Entry}
use Rattle.bus_semantics.specs.declared.entries.Deed.TheVariants.{Start}
use Rattle.task_machine.specs.declared.instr.TaskSet.{TaskSet}
use Rattle.task_machine.specs.Frames.{Stands}
use Rattle.trace_walks.specs.declared.walk.Running.{Running}
use Rattle.trace_walks.specs.declared.walk.Walk.{Walk}

-- an entry of a key
abbrev pub entry_of : ActKey → Deed → Entry
entry_of k d = record { actor = Act k; deed = d }

-- ---- what it stands for

-- an activation that runs: the event of its Start, and a frame that stands for its Start and its answers so far, none of which is its last
pub record IsRunning (t : TaskSet) (k : ActKey) (h : History) (r : Running) : Type 0 where
  pub going : runs k h ≡ true
  pub activation : Activation
  pub current : activation_of k h ≡ Some activation
  pub goes_on : list_any is_over activation.deeds ≡ false
  pub event_is : r.event ≡ activation.event
  pub point : Option ℕ
  pub value : Value
  pub words : words_of value ≡ activation.start
  pub stands : Stands t k (Start activation.event point value) activation.deeds r.frame

abbrev pub RunningStands : TaskSet → ActKey → History → Option Running → Type 0
RunningStands t k h None = runs k h ≡ false
RunningStands t k h (Some r) = IsRunning t k h r

-- the point is that of the key's last entry, if that is an accepted ask
pub record WalkStands (t : TaskSet) (p : Plan) (k : ActKey) (h : History) (w : Walk) : Type 0 where
  pub running : RunningStands t k h w.running
  pub asked : w.asked ≡ asked_last k h
  pub held : w.held ≡ is_held_back p h k

-- ---- the activation that runs

-- one has begun with this Start, by this event
pub record Begins (t : TaskSet) (k : ActKey) (event : ℕ) (start : Deed) (o : Option Running) : Type 0 where
  pub running : Running
  pub is : o ≡ Some running
  pub event_is : running.event ≡ event
  pub stands : Stands t k start [] running.frame

-- what it stands for it stands for after the answer too
abbrev pub StandsOn : TaskSet → (answer : Deed) → (old new : Running) → Type 0
StandsOn t d old new = (k : ActKey) (start : Deed) (answers : List Deed) → Stands t k start answers old.frame → Stands t k start (answers ++ d ∷ []) new.frame

-- it still runs, and has heard the answer
pub record GoesOn (t : TaskSet) (answer : Deed) (old : Running) (new : Option Running) : Type 0 where
  pub running : Running
  pub is : new ≡ Some running
  pub event_is : running.event ≡ old.event
  pub goes_on : StandsOn t answer old running

-- the one that runs, if one does, goes on
abbrev pub Hears : TaskSet → (answer : Deed) → (old new : Option Running) → Type 0
Hears t d None new = new ≡ None
Hears t d (Some old) new = GoesOn t d old new

-- ---- before a trace

-- nothing has happened
abbrev pub AreFresh : List Walk → Type 0
AreFresh ws = (i : ℕ) (w : Walk) → slice_get ws i ≡ Some w → (t : TaskSet) (p : Plan) (k : ActKey) → WalkStands t p k [] w

-- ---- what it answers

-- whether an activation runs
abbrev pub goes : Walk → Bool
goes w = is_some w.running

-- the event that started the running activation
abbrev pub event_of : Walk → Option ℕ
event_of w = option_map (λ (r : Running). r.event) w.running

-- the running activation wants this next, and does not wait for a direct one
pub record IsWanted (p : Plan) (h : History) (k : ActKey) (w : Wanted) : Type 0 where
  pub next : next_wish p h k ≡ Some w
  pub free : is_held_back p h k ≡ false

-- an activation may start by this event
pub record MayBegin (p : Plan) (h : History) (k : ActKey) (event : ℕ) : Type 0 where
  pub may : may_start p h k event ≡ true
  pub free : is_held_back p h k ≡ false
