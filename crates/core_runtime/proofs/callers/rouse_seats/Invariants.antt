use Rattle.std.proofs.Common.{◌≡◌, ◌<◌, ℕ, Some}
use Rattle.std.specs.List.{slice_get}
use Rattle.core_runtime.specs.Common.{Seat, AreWoken, IsUp}
use Rattle.core_runtime.proofs.callers.rouse_seats.Given as goal

abbrev pub invariant-loop-seat : goal.invariant-loop-seat
invariant-loop-seat l = record {
  woken : AreWoken l.initial.awake.items l.awake.items;
  up : (k : ℕ) (s : Seat) → k < l.seat-index → slice_get l.seats k ≡ Some s → IsUp l.awake.items s;
}
