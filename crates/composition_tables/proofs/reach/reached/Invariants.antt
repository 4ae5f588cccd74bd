use Rattle.std.proofs.Common.{length, ◌-◌}
use Rattle.composition_tables.proofs.Reaching.{Search}
use Rattle.composition_tables.proofs.reach.reached.Given as goal

abbrev pub invariant-loop-holder : goal.invariant-loop-holder
invariant-loop-holder l = Search l.d l.fn.starts.keys l.found.keys l.next

abbrev pub decreases-loop-holder : goal.decreases-loop-holder
decreases-loop-holder l = length l.d.compositions - l.next
