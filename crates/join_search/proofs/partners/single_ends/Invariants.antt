use Rattle.std.proofs.Common.{take}
use Rattle.join_search.specs.Partners.{AreSingle}
use Rattle.join_search.proofs.partners.single_ends.Given as goal

abbrev pub invariant-loop-join : goal.invariant-loop-join
invariant-loop-join l = AreSingle (take l.join-index l.joins) l.found
