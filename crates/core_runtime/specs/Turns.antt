-- What turns of cores over all objects make, one after the other.
use Rattle.std.specs.Prelude.{◌≡◌, ℕ, suc, List, [], ◌∷◌, ◌++◌, length, set, slice_get, Bool, true, false, Some}
use Rattle.bus_semantics.specs.declared.entries.Stamped.{Stamped}
use Rattle.bus_semantics.specs.declared.script.Mapping.{Mapping}
use Rattle.bus_semantics.specs.Common.{stamps_count, Plan, History}
use Rattle.port_objects.specs.declared.object.Object.{Object}
use Rattle.port_objects.specs.Common.{Plain, Told}
use Rattle.task_machine.specs.declared.instr.TaskSet.{TaskSet}
use Rattle.task_slots.specs.declared.slot.Slot.{Slot}
use Rattle.core_turn.specs.Cores.{CoreState}
use Rattle.core_turn.specs.Lawful.{IsLawful}
use Rattle.core_turn.specs.Ready.{IsReady}
use Rattle.core_turn.specs.Turning.{NothingComes, FirstInOrder}
use Rattle.core_runtime.specs.After.{after, is_within, are_within}
use Rattle.core_lanes.specs.Rooms.{HaveRoom}

-- The cores and the objects after further entries: for each history for which they were lawful they are lawful for it and these
-- entries.
abbrev pub GoesOn : Plan → Mapping → TaskSet → (cores now : List CoreState) → (objects later : List Object) → List Stamped → Type 0
GoesOn p m t cores now objects later added = (h : History) → IsLawful p m t cores objects h → IsLawful p m t now later (after added h)

abbrev pub AreReady : Plan → Mapping → TaskSet → List CoreState → Type 0
AreReady p m t cores = (i : ℕ) (c : CoreState) → slice_get cores i ≡ Some c → IsReady p m t c

-- a turn of the core over these objects makes nothing
pub record NothingOf (p : Plan) (t : TaskSet) (objects : List Object) (c : CoreState) : Type 0 where
  pub same : CoreState
  pub before : Told
  pub now : Told
  pub told : before.objects ≡ Some objects
  pub nothing : NothingComes p t c same before now

-- so it is of each core

abbrev pub NothingMayCome : Plan → TaskSet → List CoreState → List Object → Type 0
NothingMayCome p t cores objects = (i : ℕ) (c : CoreState) → slice_get cores i ≡ Some c → NothingOf p t objects c

-- ---- turns in order

-- a core made an entry over these objects: nothing of its slots that come before may come, and of this one the first that may was made
pub record MakesInOrder (p : Plan) (t : TaskSet) (old new : CoreState) (objects after : List Object) (s : Stamped) : Type 0 where
  pub at : ℕ
  pub slot : Slot
  pub there : slice_get old.slots at ≡ Some slot
  pub order : FirstInOrder p t old at slot objects (Some after) s
  pub first : new.first ≡ suc at

-- a turn of a core: that entry, or none if nothing of the core may come
abbrev pub TakesOne : Plan → TaskSet → (old new : CoreState) → (objects after : List Object) → (made : List Stamped) → Type 0
TakesOne p t old new objects after [] = NothingOf p t objects old × (new ≡ old) × (after ≡ objects)
TakesOne p t old new objects after (s ∷ []) = MakesInOrder p t old new objects after s
TakesOne p t old new objects after (s ∷ r ∷ more) = ⊥

-- each core takes one turn, in the order of their numbers, over the objects as the one before left them
abbrev pub EachTakesOne : Plan → TaskSet → (cores now : List CoreState) → (objects later : List Object) → (entries : List Stamped) → Type 0
EachTakesOne p t [] [] objects later entries = (later ≡ objects) × (entries ≡ [])
EachTakesOne p t (c ∷ cores) (n ∷ now) objects later entries = (after : List Object) × (made : List Stamped) × (more : List Stamped) × (entries ≡ made ++ more)
    × TakesOne p t c n objects after made × EachTakesOne p t cores now after later more
EachTakesOne p t _ _ objects later entries = ⊥

-- ---- one turn

-- a core made an entry, the last of all
pub record Makes (p : Plan) (t : TaskSet) (old new : CoreState) (before now : Plain) (entries all : List Stamped) : Type 0 where
  pub made : Stamped
  pub added : all ≡ entries ++ made ∷ []
  pub within : is_within made ≡ true
  pub stamp : made.stamp ≡ before.next
  pub next : now.next ≡ suc before.next
  pub room : before.room ≡ suc now.room
  pub order : MakesInOrder p t old new before.objects now.objects made
  pub ready : (m : Mapping) → IsReady p m t old → IsReady p m t new
  pub goes : (m : Mapping) (cores : List CoreState) (i : ℕ) → slice_get cores i ≡ Some old → IsReady p m t old → GoesOn p m t cores (set cores i new) before.objects now.objects (made ∷ [])

-- a core made nothing, since nothing of it may come
pub record Rests (p : Plan) (t : TaskSet) (old new : CoreState) (before now : Plain) (entries all : List Stamped) : Type 0 where
  pub none : NothingOf p t before.objects old
  pub same : all ≡ entries
  pub core : new ≡ old
  pub objects : now.objects ≡ before.objects
  pub next : now.next ≡ before.next
  pub room : now.room ≡ before.room

abbrev pub IsStep : Plan → TaskSet → (old new : CoreState) → (before now : Plain) → (entries all : List Stamped) → (made : Bool) → Type 0
IsStep p t old new before now entries all true = Makes p t old new before now entries all
IsStep p t old new before now entries all false = Rests p t old new before now entries all

-- ---- turns one after the other

-- what cores made from the first of these entries on, which stand in the order of stamps
pub record Made (p : Plan) (t : TaskSet) (cores now : List CoreState) (objects later : List Object) (entries : List Stamped) : Type 0 where
  pub count : length now ≡ length cores
  pub room : HaveRoom now
  pub ready : (m : Mapping) → AreReady p m t cores → AreReady p m t now
  pub goes : (m : Mapping) → AreReady p m t cores → GoesOn p m t cores now objects later entries
  pub within : are_within entries ≡ true
  pub stamps : stamps_count entries ≡ true
