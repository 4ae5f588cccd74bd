use Rattle.std.proofs.Common.{take}
use Rattle.description_types.specs.declared.description.InnerPort.{InnerPort}
use Rattle.end_search.specs.Below.{Stays, IsInnerCovered}
use Rattle.description_types.specs.Members.{Among}
use Rattle.end_search.proofs.below.follow_port.Given as goal

abbrev pub invariant-loop-inner : goal.invariant-loop-inner
invariant-loop-inner l = record {
  stays : Stays l.fn.search l.search;
  followed : (inner : InnerPort) → Among inner (take l.inner-index l.inner-items) → IsInnerCovered l.tree.d.now l.search l.node.0 inner;
}
