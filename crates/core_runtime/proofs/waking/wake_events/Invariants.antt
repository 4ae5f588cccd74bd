use Rattle.std.proofs.Common.{◌≡◌, ◌<◌, ℕ, Some}
use Rattle.std.specs.List.{slice_get}
use Rattle.port_objects.specs.Objects.{kept_of}
use Rattle.core_runtime.specs.Common.{Seat, AreWoken, IsAt, IsSeen}
use Rattle.core_runtime.proofs.waking.wake_events.Given as goal

abbrev pub invariant-loop-event : goal.invariant-loop-event
invariant-loop-event l = record {
  seats : l.w.seats ≡ l.initial.w.seats;
  starters : l.w.starters ≡ l.initial.w.starters;
  woken : AreWoken l.initial.w.awake.items l.w.awake.items;
  seen : (k e : ℕ) (s : Seat) → k < l.event-index → slice_get l.events k ≡ Some e → IsAt l.initial.w.seats.items e s → IsSeen (kept_of l.object) l.w.awake.items e s;
}
