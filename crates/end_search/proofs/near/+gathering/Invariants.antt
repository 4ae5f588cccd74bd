use Rattle.std.proofs.Common.{◌*◌, ◌+◌, take, false}
use Rattle.description_types.specs.declared.description.InnerPort.{InnerPort}
use Rattle.description_types.specs.Growing.{AnyOf}
use Rattle.end_search.specs.Near.{AreNear}
use Rattle.end_search.specs.Wishes.{IsInnerEnd, Sought}
use Rattle.end_search.proofs.near.+gathering.Given as goal

abbrev pub invariant-gather-loop-inner : goal.invariant-gather-loop-inner
invariant-gather-loop-inner l = record {
  near : AreNear l.tree.d.now l.wish.wanted l.near;
  sought : Sought (AnyOf (λ (inner : InnerPort). IsInnerEnd l.tree.d.now l.wish.wanted l.depth l.composition inner.prototype inner.port) (take l.inner-index l.inner-items)) l.fn.found.keys l.found.keys false;
}

abbrev pub decreases-keep_port : goal.decreases-keep_port
decreases-keep_port l = 3 * l.depth

abbrev pub decreases-gather_inner : goal.decreases-gather_inner
decreases-gather_inner l = 3 * l.depth + 1

abbrev pub decreases-gather : goal.decreases-gather
decreases-gather l = 3 * l.depth + 2
