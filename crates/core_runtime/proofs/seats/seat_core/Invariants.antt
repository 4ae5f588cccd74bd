use Rattle.std.proofs.Common.{map}
use Rattle.task_slots.specs.Slots.{events_of_slot}
use Rattle.core_runtime.specs.Watching.{Adds}
use Rattle.core_runtime.proofs.Seated.{OfCoreBelow}
use Rattle.core_runtime.proofs.seats.seat_core.Given as goal

abbrev pub invariant-loop-slot : goal.invariant-loop-slot
invariant-loop-slot l = Adds (OfCoreBelow (map events_of_slot l.core.slots) l.number l.slot) l.initial.seats.items l.seats.items
