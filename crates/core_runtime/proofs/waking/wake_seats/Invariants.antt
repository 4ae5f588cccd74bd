use Rattle.std.proofs.Common.{◌≡◌, ◌<◌, ℕ, Some}
use Rattle.std.specs.List.{slice_get}
use Rattle.port_objects.specs.Objects.{kept_of}
use Rattle.core_runtime.specs.Common.{Seat, AreWoken, IsSeen}
use Rattle.core_runtime.proofs.waking.wake_seats.Given as goal

abbrev pub invariant-loop-seat : goal.invariant-loop-seat
invariant-loop-seat l = record {
  woken : AreWoken l.initial.awake.items l.awake.items;
  seen : (k : ℕ) (s : Seat) → k < l.seat-index → slice_get l.seats k ≡ Some s → IsSeen (kept_of l.object) l.awake.items l.event s;
}
