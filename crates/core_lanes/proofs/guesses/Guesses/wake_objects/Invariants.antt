use Rattle.core_turn.specs.Awake.{Fits}
use Rattle.core_lanes.proofs.guesses.Guesses.wake_objects.Given as goal

abbrev pub invariant-loop-place : goal.invariant-loop-place
invariant-loop-place l = Fits l.core.slots l.core.first l.awake
