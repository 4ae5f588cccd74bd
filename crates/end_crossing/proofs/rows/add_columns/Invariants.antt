use Rattle.std.proofs.Common.{take, false}
use Rattle.description_types.specs.Growing.{AnyOf, Grown}
use Rattle.composition_tables.specs.declared.tree.PortEnd.{PortEnd}
use Rattle.end_crossing.specs.PortLinks.{IsPairLink}
use Rattle.end_crossing.specs.Crossings.{IsAdding}
use Rattle.end_crossing.proofs.rows.add_columns.Given as goal

abbrev pub invariant-loop-end : goal.invariant-loop-end
invariant-loop-end l = record {
  matched : IsAdding l.d l.matched l.links.list.items;
  grown : Grown (AnyOf (λ (r : PortEnd). AnyOf (λ (p : PortEnd). IsPairLink l.d p r) l.first) (take l.end-index l.second)) l.fn.links.list.items l.links.list.items false;
}
