use Rattle.std.proofs.Common.{◌≡◌, ◌++◌, map}
use Rattle.bus_semantics.specs.Plan.{positions}
use Rattle.task_slots.specs.declared.slot.Slot.TheVariants as of
use Rattle.core_turn.proofs.making.add_machines.Given as goal

abbrev pub invariant-loop-number : goal.invariant-loop-number
invariant-loop-number l = l.slots.items ≡ l.initial.slots.items ++ map of.Machine (positions l.number)
