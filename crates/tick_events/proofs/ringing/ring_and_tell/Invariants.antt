use Rattle.std.proofs.Common.{◌≡◌, ◌≤◌, ◌+◌, ◌⊎◌, ◌==◌, ℕ, length, map, true, false, Some, Contains}
use Rattle.std.specs.Prelude.{count_by}
use Rattle.std.specs.List.{slice_get}
use Rattle.std.specs.Vec.{vec_capacity}
use Rattle.latches.specs.Latches.{IsNewlySet, is_clear}
use Rattle.latches.proofs.Told.{Stays}
use Rattle.tick_events.specs.Countdowns.{Countdown}
use Rattle.tick_events.specs.Running.{AreFit, pending, settled_timer}
use Rattle.tick_events.proofs.ringing.ring_and_tell.Given as goal

abbrev pub invariant-loop-ended : goal.invariant-loop-ended
invariant-loop-ended l = record {
  fit : AreFit l.countdowns l.flags;
  settled : map (settled_timer l.countdowns) l.flags ≡ map (settled_timer l.initial.countdowns) l.initial.flags;
  named : length l.names ≡ length l.flags;
  room : length l.rung.items + count_by is_clear l.flags ≤ vec_capacity l.rung;
  capacity : vec_capacity l.rung ≡ vec_capacity l.initial.rung;
  stays : Stays l.initial.flags l.flags;
  only : (name : ℕ) → Contains l.rung.items name → Contains l.initial.rung.items name ⊎ IsNewlySet l.initial.flags l.flags l.names name;
  told : (event name : ℕ) → pending l.initial.flags event ≡ Some false → pending l.flags event ≡ Some true → slice_get l.names event ≡ Some name → Contains l.rung.items name;
}

abbrev pub decreases-loop-ended : goal.decreases-loop-ended
decreases-loop-ended l = count_by (λ (c : Countdown). c.left == 0) l.countdowns
