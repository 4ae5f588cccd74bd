-- What may come of its own: the mapped events by which starts may come, and the machines of which phases may. Each object holds what is not
-- among these.
use Rattle.std.specs.Prelude.{◌≡◌, ℕ, ◌+◌, ◌<◌, ◌==◌, List, length, Bool, true, false, slice_get, slice_index_or, Some, None, unwrap_or}
use Rattle.bus_laws.specs.Common.{Actor, Machine, Act, Deed}
use Rattle.bus_semantics.specs.Common.{Plan, kind_of, Wanted, to_start, to_move_on, wanted_by, Noted, first_machine, object_of_kind, plain_key, times_mapped}
use Rattle.port_objects.specs.declared.object.Object.{Object}
use Rattle.port_objects.specs.Common.{lead, kept_of, may_start_in, Tells}
use Rattle.trace_objects.specs.declared.unrest.Unrest.{Unrest}

-- an event that is in a task: a server's only if it has a queue (SWS_RTE: RteEventToTaskMapping)
abbrev pub is_mapped : Plan → (event : ℕ) → Bool
is_mapped p e = times_mapped p (kind_of p e) == 1

-- ---- what an object holds

-- no entry of the actor and of the wish leads on, on the object
abbrev pub LeadsNowhere : Plan → (object : ℕ) → Actor → Wanted → Object → Type 0
LeadsNowhere p i a w o = (x : Noted) → x.entry.actor ≡ a → wanted_by (unwrap_or x.event 0) x.entry.deed ≡ w → lead p i (kept_of o) x ≡ None

-- the object of the event, if it has one, does not allow a start by it
abbrev pub StartHeld : Plan → List Object → (event : ℕ) → Type 0
StartHeld p objects e = (i : ℕ) (o : Object) → object_of_kind p (kind_of p e) ≡ Some i → slice_get objects i ≡ Some o → may_start_in (kept_of o) e ≡ false

-- no phase of the machine leads on, on its object
abbrev pub PhaseHeld : Plan → List Object → (machine : ℕ) → Type 0
PhaseHeld p objects n = (o : Object) → slice_get objects (first_machine p + n) ≡ Some o → LeadsNowhere p (first_machine p + n) (Machine n) to_move_on o

-- nothing leads on, and the object allows no start that is wished
pub record IsHeldBack (p : Plan) (object : ℕ) (a : Actor) (w : Wanted) (o : Object) : Type 0 where
  pub none : LeadsNowhere p object a w o
  pub flag : (runnable event : ℕ) → a ≡ Act (plain_key runnable) → w ≡ to_start event → may_start_in (kept_of o) event ≡ false

-- ---- what is among these

-- it holds of each number that is not in the set
abbrev pub OfOthers : (ℕ → Type 0) → (set : List Bool) → Type 0
OfOthers P set = (n : ℕ) → n < length set → slice_index_or set n false ≡ false → P n

-- each mapped event by which a start may come is among these
pub record StartsAmong (p : Plan) (objects : List Object) (events : List Bool) : Type 0 where
  pub count : length events ≡ length p.events
  pub others : OfOthers (λ e. is_mapped p e ≡ true → StartHeld p objects e) events

-- each machine of which a phase may come is among these
pub record PhasesAmong (p : Plan) (objects : List Object) (machines : List Bool) : Type 0 where
  pub count : length machines ≡ length p.machines
  pub others : OfOthers (PhaseHeld p objects) machines

pub record AreAmong (p : Plan) (objects : List Object) (u : Unrest) : Type 0 where
  pub starts : StartsAmong p objects u.events
  pub phases : PhasesAmong p objects u.machines

-- ---- an entry on an object

-- by an entry of this deed it came to keep what it keeps now, and it tells the starts that came
pub record IsLed (p : Plan) (object : ℕ) (before now : Object) (d : Deed) : Type 0 where
  pub noted : Noted
  pub deed : noted.entry.deed ≡ d
  pub leads : lead p object (kept_of before) noted ≡ Some (kept_of now)
  pub told : Tells (kept_of before) now
