use Rattle.std.proofs.Common.{◌≡◌, ◌+◌, drop}
use Rattle.task_generator.specs.Slots.{slot_of}
use Rattle.task_generator.proofs.targets.slot_of.Given as goal

abbrev pub invariant-loop-slot : goal.invariant-loop-slot
invariant-loop-slot l = l.slot + slot_of l.elem (drop l.slot l.elements) ≡ slot_of l.elem l.elements
