-- What a node keeps.
use Rattle.std.specs.Prelude.{◌≡◌, ℕ, List, [], length, Some, slice_get}
use Rattle.bus_semantics.specs.declared.plan.BusPlan.{BusPlan}
use Rattle.bus_semantics.specs.declared.entries.Stamped.{Stamped}
use Rattle.bus_semantics.specs.declared.script.Mapping.{Mapping}
use Rattle.bus_semantics.specs.Common.{Plan, plan_of, History, IsSound}
use Rattle.port_objects.specs.declared.object.Object.{Object}
use Rattle.port_objects.specs.Common.{ArePlans, HasObjects}
use Rattle.task_machine.specs.declared.instr.TaskSet.{TaskSet}
use Rattle.task_generator.specs.Promise.{AsksAsPlanned}
use Rattle.core_turn.specs.Cores.{CoreState}
use Rattle.core_turn.specs.Lawful.{IsLawful}
use Rattle.core_turn.specs.Ready.{IsReady}
use Rattle.core_turn.specs.Standing.{CoreStands}
use Rattle.core_lanes.specs.Rooms.{HasRoom, HaveRoom}

-- its plan, mapping and bodies, its cores by number, its objects by number, the entries of the last round or serial pass, and for how
-- many it has room
pub record NodeState : Type 0 where
  pub plan : BusPlan
  pub mapping : Mapping
  pub bodies : TaskSet
  pub cores : List CoreState
  pub objects : List Object
  pub entries : List Stamped
  pub spare : ℕ

-- the node is lawful for a history: this is legal, each object stands for its part of it, and the cores' tasks for what runs
abbrev pub IsLawfulNode : NodeState → History → Type 0
IsLawfulNode n h = IsLawful (plan_of n.plan) n.mapping n.bodies n.cores n.objects h

-- The plan is sound with the mapping, the bodies ask what it wants, each of the mapping's cores is there with room for an entry, and
-- all is lawful for some history.
pub record IsNode (p : Plan) (m : Mapping) (t : TaskSet) (cores : List CoreState) (objects : List Object) : Type 0 where
  pub sound : IsSound p m
  pub bodies : AsksAsPlanned p t
  pub counted : HasObjects p
  pub planned : ArePlans p objects
  pub cores_are : length cores ≡ m.cores
  pub room : HaveRoom cores
  pub history : History
  pub lawful : IsLawful p m t cores objects history

-- A core of a mapping to which nothing has happened: it has its tasks, in which nothing runs, and room for an entry.
pub record IsNewCore (p : Plan) (m : Mapping) (t : TaskSet) (number : ℕ) (c : CoreState) : Type 0 where
  pub is_number : c.number ≡ number
  pub has_room : HasRoom c
  pub is_ready : IsSound p m → IsReady p m t c
  pub stands : CoreStands p t [] c

-- such cores, each at its number
abbrev pub AreNewCores : Plan → Mapping → TaskSet → List CoreState → Type 0
AreNewCores p m t cores = (i : ℕ) (c : CoreState) → slice_get cores i ≡ Some c → IsNewCore p m t i c

-- the same node, but for how many entries it has room for
pub record IsSameNode (old new : NodeState) : Type 0 where
  pub plan : new.plan ≡ old.plan
  pub mapping : new.mapping ≡ old.mapping
  pub bodies : new.bodies ≡ old.bodies
  pub cores : new.cores ≡ old.cores
  pub objects : new.objects ≡ old.objects
  pub entries : new.entries ≡ old.entries
