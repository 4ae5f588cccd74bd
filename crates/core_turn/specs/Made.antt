-- New slots, in which nothing runs.
use Rattle.std.specs.Prelude.{◌≡◌, List, [], ◌∷◌}
use Rattle.task_machine.specs.declared.instr.TaskSet.{TaskSet}
use Rattle.task_slots.specs.declared.slot.Slot.{Slot}
use Rattle.task_slots.specs.declared.slot.Slot.TheVariants as slot
use Rattle.task_slots.specs.Slots.{Table, of_task, of_machine}
use Rattle.task_slots.specs.Made.{IsNew}

-- a slot of a task with these events, or of this machine
abbrev pub IsNewSlot : TaskSet → Table → Slot → Type 0
IsNewSlot t (of_task events) (slot.Task s) = IsNew t events s
IsNewSlot t (of_machine n) (slot.Machine k) = k ≡ n
IsNewSlot t _ _ = ⊥

-- one for each, in their order
abbrev pub AreNew : TaskSet → List Table → List Slot → Type 0
AreNew t [] [] = Unit {0}
AreNew t (x ∷ tables) (s ∷ slots) = IsNewSlot t x s × AreNew t tables slots
AreNew t _ _ = ⊥
