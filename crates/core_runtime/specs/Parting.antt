-- A node that is taken apart.
use Rattle.std.specs.Prelude.{List, None}
use Rattle.bus_semantics.specs.declared.script.Mapping.{Mapping}
use Rattle.bus_semantics.specs.Plan.{Plan, plan_of}
use Rattle.port_objects.specs.declared.object.Object.{Object}
use Rattle.task_machine.specs.declared.instr.TaskSet.{TaskSet}
use Rattle.core_turn.specs.Cores.{CoreState}
use Rattle.core_runtime.specs.declared.parts.Parts.{Parts}
use Rattle.core_runtime.specs.declared.parts.Upkeep.{Upkeep}
use Rattle.core_runtime.specs.Nodes.{IsNode}
use Rattle.core_runtime.specs.Watching.{IsWatch, HaveSameTasks}

-- with these cores and objects a node can be made again: they are those of a node, and what of the cores may step was watched for cores with
-- the same tasks
pub record IsParts (p : Plan) (m : Mapping) (t : TaskSet) (cores : List CoreState) (objects : List Object) (kept : Upkeep) : Type 0 where
  pub node : IsNode p m t cores objects
  pub before : List CoreState
  pub past : List Object
  pub watched : IsWatch p t past None before kept.watch
  pub tasks : HaveSameTasks before cores

abbrev pub AreParts : Parts → Type 0
AreParts x = IsParts (plan_of x.plan) x.mapping x.tasks x.cores.items x.objects.items x.kept
