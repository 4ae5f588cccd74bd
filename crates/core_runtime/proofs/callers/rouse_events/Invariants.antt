use Rattle.std.proofs.Common.{◌≡◌, ◌<◌, ℕ, Some}
use Rattle.std.specs.List.{slice_get}
use Rattle.core_runtime.specs.Common.{Seat, AreWoken, IsAt, IsUp}
use Rattle.core_runtime.proofs.callers.rouse_events.Given as goal

abbrev pub invariant-loop-event : goal.invariant-loop-event
invariant-loop-event l = record {
  woken : AreWoken l.initial.awake.items l.awake.items;
  up : (k e : ℕ) (s : Seat) → k < l.event-index → slice_get l.events k ≡ Some e → IsAt l.seats e s → IsUp l.awake.items s;
}
