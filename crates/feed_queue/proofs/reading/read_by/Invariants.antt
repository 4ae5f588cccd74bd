use Rattle.std.proofs.Common.{length}
use Rattle.bus_semantics.specs.Plan.{plan_of}
use Rattle.feed_queue.proofs.ReadingSteps.{HasRead}
use Rattle.feed_queue.proofs.reading.read_by.Given as goal

abbrev pub invariant-loop-rest : goal.invariant-loop-rest
invariant-loop-rest l = HasRead (plan_of l.environment.plan.now) l.bytes l.wishes.items l.progress l.rest

abbrev pub decreases-loop-rest : goal.decreases-loop-rest
decreases-loop-rest l = length l.rest
