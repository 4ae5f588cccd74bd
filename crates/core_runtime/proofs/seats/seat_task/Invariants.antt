use Rattle.core_runtime.specs.Watching.{Adds}
use Rattle.core_runtime.proofs.Seated.{OfTaskBelow}
use Rattle.core_runtime.proofs.seats.seat_task.Given as goal

abbrev pub invariant-loop-place : goal.invariant-loop-place
invariant-loop-place l = Adds (OfTaskBelow l.events l.core l.slot l.place) l.initial.seats.items l.seats.items
