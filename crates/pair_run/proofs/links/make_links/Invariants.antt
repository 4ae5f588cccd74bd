use Rattle.std.proofs.Common.{◌≡◌, ◌++◌, drop}
use Rattle.bus_semantics.specs.Plan.{plan_of}
use Rattle.pair_run.specs.Linked.{links_from, links_of}
use Rattle.pair_run.proofs.links.make_links.Given as goal

-- the links so far, and those of the elements that are left
abbrev pub invariant-loop-number : goal.invariant-loop-number
invariant-loop-number l = l.links.items ++ links_from (plan_of l.b) l.number (drop l.number (plan_of l.a).elements) ≡ links_of (plan_of l.a) (plan_of l.b)
