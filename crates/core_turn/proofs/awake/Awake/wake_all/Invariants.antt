use Rattle.core_turn.proofs.AllAwake.{AwakeBelow}
use Rattle.core_turn.proofs.awake.Awake.wake_all.Given as goal

abbrev pub invariant-loop-place : goal.invariant-loop-place
invariant-loop-place l = AwakeBelow l.c.slots l.place l.self
