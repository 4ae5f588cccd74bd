-- Cores and objects that are lawful for a history.
use Rattle.std.specs.Prelude.{◌≡◌, ℕ, suc, List, length, Some, slice_get}
use Rattle.bus_semantics.specs.declared.script.Mapping.{Mapping}
use Rattle.bus_semantics.specs.Common.{Plan, History, entries_of, clock, IsLegal}
use Rattle.port_objects.specs.declared.object.Object.{Object}
use Rattle.port_objects.specs.Common.{kept_of, Stands}
use Rattle.task_machine.specs.declared.instr.TaskSet.{TaskSet}
use Rattle.core_turn.specs.Cores.{CoreState}
use Rattle.core_turn.specs.Ready.{IsReady}
use Rattle.core_turn.specs.Standing.{CoreStands}

-- the history is legal; there is each object of the plan and each core of the mapping; each object stands for its part of the history, and
-- each core, at its number, for the activations of its tasks
pub record IsLawful (p : Plan) (m : Mapping) (t : TaskSet) (cores : List CoreState) (objects : List Object) (h : History) : Type 0 where
  pub legal : IsLegal p h
  pub objects_are : length objects ≡ suc (clock p)
  pub cores_are : length cores ≡ m.cores
  pub stand : (i : ℕ) (o : Object) → slice_get objects i ≡ Some o → Stands p i (kept_of o) (entries_of p h i)
  pub number : (i : ℕ) (c : CoreState) → slice_get cores i ≡ Some c → c.number ≡ i
  pub ready : (i : ℕ) (c : CoreState) → slice_get cores i ≡ Some c → IsReady p m t c
  pub stands : (i : ℕ) (c : CoreState) → slice_get cores i ≡ Some c → CoreStands p t h c
