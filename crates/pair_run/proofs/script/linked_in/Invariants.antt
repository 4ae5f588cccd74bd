use Rattle.std.proofs.Common.{length, take}
use Rattle.bus_semantics.specs.Plan.{plan_of}
use Rattle.pair_run.proofs.Marking.{AreMarks}
use Rattle.pair_run.proofs.script.linked_in.Given as goal

-- the elements of the links so far are marked
abbrev pub invariant-loop-link : goal.invariant-loop-link
invariant-loop-link l = AreMarks (length (plan_of l.p).elements) (take l.link-index l.links) l.linked.items
