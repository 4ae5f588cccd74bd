-- The parts of a node, after their cores and objects have gone on.
use Rattle.std.proofs.Common.{◌≡◌, ◌∙◌, List, length}
use Rattle.bus_semantics.specs.declared.entries.Stamped.{Stamped}
use Rattle.bus_semantics.specs.declared.script.Mapping.{Mapping}
use Rattle.bus_semantics.specs.Plan.{Plan}
use Rattle.port_objects.specs.declared.object.Object.{Object}
use Rattle.port_objects.specs.Objects.{ArePlans}
use Rattle.task_machine.specs.declared.instr.TaskSet.{TaskSet}
use Rattle.core_turn.specs.Cores.{CoreState}
use Rattle.core_lanes.specs.Rooms.{HaveRoom}
use Rattle.core_runtime.specs.declared.parts.Upkeep.{Upkeep}
use Rattle.core_runtime.specs.Parting.{IsParts}
use Rattle.core_runtime.specs.Turns.{GoesOn}
use Rattle.core_runtime.proofs.Ending.{gone_node}
use Rattle.core_runtime.proofs.Together.{gone_tasks}

-- they are still parts
pub parts_on : {p : Plan} {m : Mapping} {t : TaskSet} {cores now : List CoreState} {objects later : List Object} {kept : Upkeep} (entries : List Stamped) → IsParts p m t cores objects kept → length now ≡ length cores → HaveRoom now → ArePlans p later
    → GoesOn p m t cores now objects later entries → IsParts p m t now later kept
parts_on {p} {m} {t} {cores} {now} {objects} {later} entries parts count room planned goes = record {
  node = gone_node p m t cores now objects later entries parts.node count room planned goes;
  before = parts.before;
  past = parts.past;
  watched = parts.watched;
  tasks = gone_tasks p m t cores now objects later entries parts.node count goes ∙ parts.tasks;
}
