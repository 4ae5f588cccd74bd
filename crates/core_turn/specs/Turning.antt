-- What comes of a turn: one entry of one slot, and what its core stands for then; or nothing, and why (OS: scheduling; the order of slots is
-- this project's own).
use Rattle.std.specs.Prelude.{◌≡◌, ℕ, suc, ◌<◌, ◌≤◌, List, [], ◌∷◌, ◌++◌, set, slice_get, true, Option, Some, None}
use Rattle.bus_semantics.specs.declared.entries.Stamped.{Stamped}
use Rattle.bus_semantics.specs.Common.{Plan, History, gathered}
use Rattle.port_objects.specs.declared.object.Object.{Object}
use Rattle.port_objects.specs.Benches.{IsFurther, StampAfter, Told}
use Rattle.task_machine.specs.declared.instr.TaskSet.{TaskSet}
use Rattle.task_slots.specs.declared.slot.Slot.{Slot}
use Rattle.task_slots.specs.Look.{Look}
use Rattle.task_slots.specs.Look as look
use Rattle.task_slots.specs.Slots.{slot_tries}
use Rattle.task_slots.specs.Looking.{AllHeld, FirstMade, is_touched, Looked}
use Rattle.task_slots.specs.Stepping.{SlotStep}
use Rattle.core_turn.specs.declared.passed.Passed.{Passed}
use Rattle.core_turn.specs.declared.passed.Passed.TheVariants as pass
use Rattle.core_turn.specs.declared.turning.Turned.{Turned}
use Rattle.core_turn.specs.declared.turning.Turned.TheVariants.{Stepped, NothingNow, Contended}
use Rattle.core_turn.specs.Cores.{CoreState, slots_between, slots_before, looks_in}
use Rattle.core_turn.specs.Standing.{CoreStands}

-- ---- slots are passed

-- nothing of the slots before this one may come, and of this one the first that may come was made. How many looks that took is not told
pub record PassMade (p : Plan) (t : TaskSet) (old new : List Slot) (from : ℕ) (at : ℕ) (before after : Told) (s : Stamped) : Type 0 where
  pub slot : Slot
  pub stepped : Slot
  pub behind : from ≤ at
  pub there : slice_get old at ≡ Some slot
  pub slots : new ≡ set old at stepped
  pub step : SlotStep p t slot stepped s
  pub middle : Told
  pub passed : Looked p (gathered (slot_tries p t) (slots_between from at old)) 0 before middle look.Nothing
  pub looked : Looked p (slot_tries p t slot) 0 middle after (look.Made s)

-- an entry was made, and is written down at the end of a list
pub record PassWritten (p : Plan) (t : TaskSet) (old new : List Slot) (from : ℕ) (to : ℕ) (at : ℕ) (before after : Told) (xs ys : List Stamped) : Type 0 where
  pub within : at < to
  pub entry : Stamped
  pub written : ys ≡ xs ++ entry ∷ []
  pub made : PassMade p t old new from at before after entry

-- none was, and the slots stay; so many looks, of those that a bench counts, answered so
pub record PassIdle (p : Plan) (t : TaskSet) (looks : ℕ) (old new : List Slot) (from : ℕ) (to : ℕ) (before after : Told) (xs ys : List Stamped) (l : Look) : Type 0 where
  pub same : new ≡ old
  pub none : ys ≡ xs
  pub looked : Looked p (gathered (slot_tries p t) (slots_between from to old)) looks before after l

-- what came of looks at the slots from one place up to another, so many of which answered NotYet if nothing came
abbrev pub IsPass : Plan → TaskSet → (looks : ℕ) → (old new : List Slot) → (from : ℕ) → (to : ℕ) → (before after : Told) → (xs ys : List Stamped) → Passed → Type 0
IsPass p t looks old new from to before after xs ys (pass.Made at) = PassWritten p t old new from to at before after xs ys
IsPass p t looks old new from to before after xs ys pass.Nothing = PassIdle p t looks old new from to before after xs ys look.Nothing
IsPass p t looks old new from to before after xs ys (pass.Contended object) = PassIdle p t 0 old new from to before after xs ys (look.Contended object)

-- ---- a core steps

-- if the bench tells its objects: nothing of the slots that come before may come, and of this one the first that may come was made
pub record FirstInOrder (p : Plan) (t : TaskSet) (c : CoreState) (at : ℕ) (slot : Slot) (objects : List Object) (after : Option (List Object)) (s : Stamped) : Type 0 where
  pub passed : AllHeld p objects (gathered (slot_tries p t) (slots_before c.first at c.slots))
  pub made : FirstMade p (slot_tries p t slot) objects after s

abbrev pub OrderTold : Plan → TaskSet → CoreState → (at : ℕ) → Slot → (old new : Option (List Object)) → Stamped → Type 0
OrderTold p t c at slot None after s = after ≡ None
OrderTold p t c at slot (Some objects) after s = FirstInOrder p t c at slot objects after s

-- one slot stepped: the next turn begins behind it, and the core stands for the entry too, wherever this is written down
pub record StepsApart (p : Plan) (t : TaskSet) (old new : CoreState) (before after : Told) (s : Stamped) : Type 0 where
  pub at : ℕ
  pub slot : Slot
  pub stepped : Slot
  pub there : slice_get old.slots at ≡ Some slot
  pub slots : new.slots ≡ set old.slots at stepped
  pub first : new.first ≡ suc at
  pub number : new.number ≡ old.number
  pub step : SlotStep p t slot stepped s
  pub stands : (g : History) → CoreStands p t g old → CoreStands p t (s.entry ∷ g) new
  pub bench_room : before.room ≡ suc after.room
  pub next : StampAfter before.next after.next (Some s)
  pub work : IsFurther before.work after.work (s ∷ []) 0 0
  pub order : OrderTold p t old at slot before.objects after.objects s

-- its entry is the last of the core's trace
pub record Steps (p : Plan) (t : TaskSet) (old new : CoreState) (before after : Told) (s : Stamped) : Type 0 where
  pub apart : StepsApart p t old new before after s
  pub trace : new.trace ≡ old.trace ++ s ∷ []
  pub room : old.room ≡ suc new.room

-- its entry is the last of another list, and the core's trace stays
pub record StepsInto (p : Plan) (t : TaskSet) (old new : CoreState) (before after : Told) (xs ys : List Stamped) (s : Stamped) : Type 0 where
  pub apart : StepsApart p t old new before after s
  pub written : ys ≡ xs ++ s ∷ []
  pub trace : new.trace ≡ old.trace
  pub room : new.room ≡ old.room

-- ---- nothing steps

abbrev pub NoneTold : Plan → TaskSet → CoreState → (old new : Option (List Object)) → Type 0
NoneTold p t c None after = after ≡ None
NoneTold p t c (Some objects) after = AllHeld p objects (gathered (slot_tries p t) c.slots) × (after ≡ Some objects)

-- nothing was found: if the bench tells its objects, nothing of any slot may come; if it tells its work, so many looks answered NotYet
pub record NothingFound (p : Plan) (t : TaskSet) (looks : ℕ) (old new : CoreState) (before after : Told) : Type 0 where
  pub same : new ≡ old
  pub room : after.room ≡ before.room
  pub next : StampAfter before.next after.next None
  pub work : IsFurther before.work after.work [] looks 0
  pub objects : NoneTold p t old before.objects after.objects

-- nothing of any slot may come: each look that it takes to see this answered NotYet
abbrev pub NothingComes : Plan → TaskSet → (old new : CoreState) → (before after : Told) → Type 0
NothingComes p t old new before after = NothingFound p t (looks_in p old.slots) old new before after

abbrev pub NeverTold : (old new : Option (List Object)) → Type 0
NeverTold None after = after ≡ None
NeverTold (Some objects) after = ⊥

-- a look found its object, which something touches that the core tries, held by another core: a bench that tells its objects never answers so
pub record IsContended (p : Plan) (t : TaskSet) (old new : CoreState) (before after : Told) (object : ℕ) : Type 0 where
  pub same : new ≡ old
  pub touched : is_touched p (gathered (slot_tries p t) old.slots) object ≡ true
  pub room : after.room ≡ before.room
  pub next : StampAfter before.next after.next None
  pub work : IsFurther before.work after.work [] 0 1
  pub objects : NeverTold before.objects after.objects

abbrev pub IsTurn : Plan → TaskSet → (old new : CoreState) → (before after : Told) → Turned → Type 0
IsTurn p t old new before after Stepped = (s : Stamped) × Steps p t old new before after s
IsTurn p t old new before after NothingNow = NothingComes p t old new before after
IsTurn p t old new before after (Contended object) = IsContended p t old new before after object

-- so by looks at what is awake alone, of which none is counted; the entry goes to the end of a list that is not the core's
abbrev pub IsTurnInto : Plan → TaskSet → (old new : CoreState) → (before after : Told) → (xs ys : List Stamped) → Turned → Type 0
IsTurnInto p t old new before after xs ys Stepped = (s : Stamped) × StepsInto p t old new before after xs ys s
IsTurnInto p t old new before after xs ys NothingNow = (ys ≡ xs) × NothingFound p t 0 old new before after
IsTurnInto p t old new before after xs ys (Contended object) = (ys ≡ xs) × IsContended p t old new before after object
