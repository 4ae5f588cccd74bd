-- What a node begins with.
use Rattle.std.specs.Prelude.{◌≡◌, ℕ, [], length, Some, None, slice_get}
use Rattle.bus_semantics.specs.declared.script.Mapping.{Mapping}
use Rattle.bus_semantics.specs.Plan.{Plan}
use Rattle.port_objects.specs.declared.object.Object.{Object}
use Rattle.port_objects.specs.Common.{kept_of, ArePlans, Stands}
use Rattle.task_machine.specs.declared.instr.TaskSet.{TaskSet}
use Rattle.core_runtime.specs.declared.beginning.Beginning.{Beginning}
use Rattle.core_runtime.specs.Nodes.{AreNewCores}
use Rattle.core_runtime.specs.Watching.{IsWatch}

-- each core of the mapping and each object of the plan, to which nothing has happened
pub record IsBeginning (p : Plan) (m : Mapping) (t : TaskSet) (b : Beginning) : Type 0 where
  pub count : length b.cores.items ≡ m.cores
  pub cores : AreNewCores p m t b.cores.items
  pub planned : ArePlans p b.objects.items
  pub standing : (i : ℕ) (o : Object) → slice_get b.objects.items i ≡ Some o → Stands p i (kept_of o) []
  pub watched : IsWatch p t b.objects.items None b.cores.items b.kept.watch
