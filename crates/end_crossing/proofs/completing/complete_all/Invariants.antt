use Rattle.std.proofs.Common.{ℕ, take}
use Rattle.end_search.specs.Sides.{HasInterface, IsSide}
use Rattle.description_types.specs.Members.{Among}
use Rattle.end_crossing.proofs.completing.complete_all.Given as goal

abbrev pub invariant-loop-interface : goal.invariant-loop-interface
invariant-loop-interface l = record {
  side : IsSide l.tree.d.now l.gate l.side;
  has : (q : ℕ) → Among q (take l.interface-index l.interfaces) → HasInterface l.side q;
}
