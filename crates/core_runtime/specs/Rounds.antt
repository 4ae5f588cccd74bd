-- What turns work on.
use Rattle.std.specs.Prelude.{◌≡◌, ◌≤◌, ℕ, ◌+◌, List, [], ◌∷◌, ◌++◌, length, set, slice_get, Bool, true, false, Some}
use Rattle.bus_semantics.specs.declared.entries.Stamped.{Stamped}
use Rattle.bus_semantics.specs.declared.plan.BusPlan.{BusPlan}
use Rattle.bus_semantics.specs.declared.script.Mapping.{Mapping}
use Rattle.bus_semantics.specs.Plan.{Plan, plan_of}
use Rattle.port_objects.specs.declared.object.Object.{Object}
use Rattle.port_objects.specs.Benches.{Plain}
use Rattle.task_machine.specs.declared.instr.TaskSet.{TaskSet}
use Rattle.task_generator.specs.Promise.{AsksAsPlanned}
use Rattle.core_turn.specs.Cores.{CoreState}
use Rattle.core_lanes.specs.Rooms.{HaveRoom}
use Rattle.core_runtime.specs.Turns.{AreReady, NothingOf, MakesInOrder, Made}

-- the plan and the bodies, the cores by number, the objects by number, the entries so far, how many more it may make, and for how many
-- there is memory in all
pub record RoundState : Type 0 where
  pub plan : BusPlan
  pub bodies : TaskSet
  pub cores : List CoreState
  pub objects : List Object
  pub entries : List Stamped
  pub room : ℕ
  pub spare : ℕ

-- the bodies ask what the plan wants, the cores are ready for a mapping, each with room for an entry, the bench is the plan's, stamps count
-- the entries, and there is memory for all that it may make
pub record IsRound (p : Plan) (t : TaskSet) (cores : List CoreState) (b : Plain) (entries : List Stamped) (spare : ℕ) : Type 0 where
  pub bodies : AsksAsPlanned p t
  pub mapping : Mapping
  pub ready : AreReady p mapping t cores
  pub core_room : HaveRoom cores
  pub plan : plan_of b.plan ≡ p
  pub next : b.next ≡ length entries
  pub room : length entries + b.room ≤ spare

-- what turns make of it: further entries, each of which takes room for one
pub record IsLater (old new : RoundState) : Type 0 where
  pub plan : new.plan ≡ old.plan
  pub bodies : new.bodies ≡ old.bodies
  pub count : length new.cores ≡ length old.cores
  pub spare : new.spare ≡ old.spare
  pub room : new.room + length new.entries ≡ old.room + length old.entries
  pub made : (start : List CoreState) (objects : List Object) → Made (plan_of old.plan) old.bodies start old.cores objects old.objects old.entries
      → Made (plan_of old.plan) old.bodies start new.cores objects new.objects new.entries

-- a turn that made no entry: nothing changed, since nothing of the core may come
pub record Rested (old new : RoundState) (number : ℕ) : Type 0 where
  pub cores : new.cores ≡ old.cores
  pub objects : new.objects ≡ old.objects
  pub entries : new.entries ≡ old.entries
  pub none : (c : CoreState) → slice_get old.cores number ≡ Some c → NothingOf (plan_of old.plan) old.bodies old.objects c

-- a turn that made an entry, the last of all: that which comes first in the core's order
pub record Stepped (old new : RoundState) (number : ℕ) : Type 0 where
  pub made : Stamped
  pub added : new.entries ≡ old.entries ++ made ∷ []
  pub core : CoreState
  pub stepped : CoreState
  pub there : slice_get old.cores number ≡ Some core
  pub cores : new.cores ≡ set old.cores number stepped
  pub order : MakesInOrder (plan_of old.plan) old.bodies core stepped old.objects new.objects made

-- a turn of the core of a number, with an entry or without one
abbrev pub IsTurn : (old new : RoundState) → (number : ℕ) → (made : Bool) → Type 0
IsTurn old new number true = Stepped old new number
IsTurn old new number false = Rested old new number
