use Rattle.std.proofs.Common.{take, false}
use Rattle.description_types.specs.Growing.{AnyOf, Grown}
use Rattle.end_crossing.specs.PortLinks.{IsPairLink}
use Rattle.end_crossing.specs.Crossings.{IsAdding}
use Rattle.end_crossing.proofs.cross.add_ends.Given as goal

abbrev pub invariant-loop-end : goal.invariant-loop-end
invariant-loop-end l = record {
  matched : IsAdding l.d l.matched l.links.list.items;
  grown : Grown (AnyOf (IsPairLink l.d l.provided) (take l.end-index l.required)) l.fn.links.list.items l.links.list.items false;
}
