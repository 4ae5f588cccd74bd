use Rattle.std.proofs.Common.{◌≤◌, length}
use Rattle.indexmap.specs.IndexMap.{get}
use Rattle.mode_machine.specs.Chains.{same_moment}
use Rattle.mode_machine.proofs.Moments.{AreFrom}
use Rattle.mode_machine.proofs.chains.Chains.new.Given as goal

abbrev pub invariant-loop-event : goal.invariant-loop-event
invariant-loop-event l = record { within : l.event ≤ length l.moments; made : AreFrom l.moments l.event (λ a. get same_moment l.first a) l.next.items }

abbrev pub decreases-loop-event : goal.decreases-loop-event
decreases-loop-event l = l.event
