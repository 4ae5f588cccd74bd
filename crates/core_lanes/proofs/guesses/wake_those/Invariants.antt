use Rattle.core_turn.specs.Awake.{Fits}
use Rattle.core_lanes.proofs.guesses.wake_those.Given as goal

abbrev pub invariant-loop-spot : goal.invariant-loop-spot
invariant-loop-spot l = Fits l.core.slots l.core.first l.awake
