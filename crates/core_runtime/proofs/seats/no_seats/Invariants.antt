use Rattle.std.proofs.Common.{◌≡◌, [], length}
use Rattle.core_runtime.specs.Watching.{AreSeated}
use Rattle.core_runtime.proofs.seats.no_seats.Given as goal

abbrev pub invariant-loop-event : goal.invariant-loop-event
invariant-loop-event l = record { count : length l.seats.items ≡ l.event; none : AreSeated [] l.seats.items }
