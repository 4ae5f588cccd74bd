use Rattle.std.proofs.Common.{take}
use Rattle.end_search.specs.Sharing.{IsIndexed}
use Rattle.end_search.proofs.partners.index_of.Given as goal

abbrev pub invariant-loop-interface : goal.invariant-loop-interface
invariant-loop-interface l = IsIndexed l.d (take l.interface-index l.chosen) l.index
