use Rattle.std.proofs.Common.{◌≡◌, ◌==◌, map}
use Rattle.std.specs.Prelude.{count_by}
use Rattle.tick_events.specs.Countdowns.{Countdown}
use Rattle.tick_events.specs.Running.{AreFit, settled_timer}
use Rattle.tick_events.proofs.ringing.ring.Given as goal

abbrev pub invariant-loop-ended : goal.invariant-loop-ended
invariant-loop-ended l = record { fit : AreFit l.countdowns l.flags; settled : map (settled_timer l.countdowns) l.flags ≡ map (settled_timer l.initial.countdowns) l.initial.flags }

abbrev pub decreases-loop-ended : goal.decreases-loop-ended
decreases-loop-ended l = count_by (λ (c : Countdown). c.left == 0) l.countdowns
