use Rattle.std.proofs.Common.{take, false}
use Rattle.description_types.specs.Growing.{AnyOf, Grown}
use Rattle.composition_flatten.specs.Links.{IsAssemblyLink}
use Rattle.end_crossing.specs.Crossings.{IsAdding}
use Rattle.composition_flatten.proofs.own.add_own.Given as goal

abbrev pub invariant-loop-connector : goal.invariant-loop-connector
invariant-loop-connector l = record {
  matched : IsAdding l.tree.d.now l.matched l.links.list.items;
  grown : Grown (AnyOf (IsAssemblyLink l.tree.d.now l.depth l.composition) (take l.connector-index l.connector-items)) l.fn.links.list.items l.links.list.items false;
}
