use Rattle.std.proofs.Common.{take, false}
use Rattle.description_types.specs.Growing.{AnyOf, Grown}
use Rattle.end_crossing.specs.Crossings.{IsAdding, IsBetween}
use Rattle.end_crossing.proofs.cross.add_grouped.Given as goal

abbrev pub invariant-loop-pair : goal.invariant-loop-pair
invariant-loop-pair l = record {
  matched : IsAdding l.d l.matched l.links.list.items;
  grown : Grown (AnyOf (IsBetween l.d l.provided l.required) (take l.pair-index l.pairs)) l.fn.links.list.items l.links.list.items false;
}
