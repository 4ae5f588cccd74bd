use Rattle.core_turn.specs.Awake.{Fits}
use Rattle.core_lanes.proofs.guesses.Guesses.hear.Given as goal

abbrev pub invariant-loop-word : goal.invariant-loop-word
invariant-loop-word l = Fits l.core.slots l.core.first l.awake
