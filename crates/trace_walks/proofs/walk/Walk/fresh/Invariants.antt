use Rattle.trace_walks.proofs.Fresh.{FreshSoFar}
use Rattle.trace_walks.proofs.walk.Walk.fresh.Given as goal

abbrev pub invariant-loop : goal.invariant-loop
invariant-loop l = FreshSoFar l.walks.items l.counter
