use Rattle.std.proofs.Common.{take, false}
use Rattle.description_types.specs.Growing.{AnyOf, Grown}
use Rattle.composition_flatten.specs.Links.{IsOuterLink}
use Rattle.end_crossing.specs.Crossings.{IsMatched}
use Rattle.composition_flatten.proofs.whole.add_each_outer.Given as goal

abbrev pub invariant-loop-port : goal.invariant-loop-port
invariant-loop-port l = record {
  matched : IsMatched l.tree.d.now l.matched;
  grown : Grown (AnyOf (IsOuterLink l.tree.d.now) (take l.port-index l.ports)) l.fn.links.list.items l.links.list.items false;
}
