-- What turns of several cores make of what they change of a node.
use Rattle.std.specs.Prelude.{◌≡◌, None}
use Rattle.bus_semantics.specs.Common.{vec_capacity, Plan}
use Rattle.task_machine.specs.declared.instr.TaskSet.{TaskSet}
use Rattle.core_lanes.specs.Together.{HasRun}
use Rattle.core_runtime.specs.declared.live.Live.{Live}
use Rattle.core_runtime.specs.Watching.{IsWatch}

-- the cores ran, and their entries are in the place of earlier ones, in a list with the same room
pub record HaveTurned (p : Plan) (t : TaskSet) (old new : Live) : Type 0 where
  pub run : HasRun p t old.cores.items new.cores.items old.objects.items new.objects.items new.entries.items
  pub watched : IsWatch p t new.objects.items None new.cores.items new.watch
  pub room : vec_capacity new.entries ≡ vec_capacity old.entries

-- nothing has changed but what is spare
pub record IsSameLive (old new : Live) : Type 0 where
  pub cores : new.cores.items ≡ old.cores.items
  pub objects : new.objects.items ≡ old.objects.items
  pub watch : new.watch ≡ old.watch
  pub entries : new.entries ≡ old.entries
