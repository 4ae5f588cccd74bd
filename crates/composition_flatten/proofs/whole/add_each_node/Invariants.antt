use Rattle.std.proofs.Common.{take, false}
use Rattle.description_types.specs.Growing.{AnyOf, Grown}
use Rattle.composition_flatten.specs.Links.{IsOwn, IsNodeLink}
use Rattle.end_crossing.specs.Crossings.{IsMatched}
use Rattle.composition_flatten.proofs.whole.add_each_node.Given as goal

abbrev pub invariant-loop-node : goal.invariant-loop-node
invariant-loop-node l = record {
  matched : IsMatched l.tree.d.now l.matched;
  own : IsOwn l.tree.d.now l.own;
  grown : Grown (AnyOf (IsNodeLink l.tree.d.now) (take l.node-index l.nodes)) l.fn.links.list.items l.links.list.items false;
}
