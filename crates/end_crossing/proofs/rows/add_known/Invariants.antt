use Rattle.std.proofs.Common.{take, false}
use Rattle.description_types.specs.Growing.{AnyOf, Grown}
use Rattle.end_crossing.specs.Crossings.{IsAdding, IsBetween}
use Rattle.end_crossing.proofs.rows.add_known.Given as goal

abbrev pub invariant-loop-pair : goal.invariant-loop-pair
invariant-loop-pair l = record {
  matched : IsAdding l.d l.matched l.links.list.items;
  grown : Grown (AnyOf (IsBetween l.d l.first l.second) (take l.pair-index l.pairs)) l.fn.links.list.items l.links.list.items false;
}
