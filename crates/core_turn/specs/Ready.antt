-- A core that turns can be made of: it was made for a mapping with which the plan is sound, and each of its slots can step.
use Rattle.std.specs.Prelude.{◌≡◌, ℕ, Some, slice_get}
use Rattle.bus_semantics.specs.declared.script.Mapping.{Mapping}
use Rattle.bus_semantics.specs.Common.{Plan, IsSound}
use Rattle.task_machine.specs.declared.instr.TaskSet.{TaskSet}
use Rattle.task_slots.specs.declared.slot.Slot.{Slot}
use Rattle.task_slots.specs.Ready.{IsReadySlot}
use Rattle.core_turn.specs.Cores.{CoreState, HasSlots}

pub record IsReady (p : Plan) (m : Mapping) (t : TaskSet) (c : CoreState) : Type 0 where
  pub sound : IsSound p m
  pub has : HasSlots p m c
  pub each : (i : ℕ) (s : Slot) → slice_get c.slots i ≡ Some s → IsReadySlot p t s
