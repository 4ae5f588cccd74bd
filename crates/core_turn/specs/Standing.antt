-- A core stands for a history: each of its slots does.
use Rattle.std.specs.Prelude.{◌≡◌, ℕ, Some, slice_get}
use Rattle.bus_semantics.specs.Common.{Plan, History}
use Rattle.task_machine.specs.declared.instr.TaskSet.{TaskSet}
use Rattle.task_slots.specs.declared.slot.Slot.{Slot}
use Rattle.task_slots.specs.Standing.{SlotStands}
use Rattle.core_turn.specs.Cores.{CoreState}

abbrev pub CoreStands : Plan → TaskSet → History → CoreState → Type 0
CoreStands p t g c = (i : ℕ) (s : Slot) → slice_get c.slots i ≡ Some s → SlotStands p t g s
