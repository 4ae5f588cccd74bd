use Rattle.std.proofs.Common.{ℕ, List, take}
use Rattle.end_search.specs.Sharing.{IsIndexed, AreShared}
use Rattle.end_search.proofs.partners.partners.Given as goal

abbrev pub invariant-loop-interface : goal.invariant-loop-interface
invariant-loop-interface l = (others : List ℕ) → IsIndexed l.d others l.index → AreShared l.d (take l.interface-index l.chosen) others l.pairs.keys
