use Rattle.std.proofs.Common.{◌*◌, ◌+◌, take, false}
use Rattle.composition_tables.specs.Ends.{ends, inner_ends}
use Rattle.end_search.specs.Gates.{gate_ends}
use Rattle.description_types.specs.Growing.{AnyOf, Grown}
use Rattle.end_crossing.specs.PortLinks.{IsCrossLink}
use Rattle.end_crossing.specs.Crossings.{IsAdding}
use Rattle.end_crossing.proofs.splitting.+splitting.Given as goal

abbrev pub invariant-cross_provided_parts-loop-inner : goal.invariant-cross_provided_parts-loop-inner
invariant-cross_provided_parts-loop-inner l = record {
  matched : IsAdding l.tree.d.now l.matched l.links.list.items;
  grown : Grown (AnyOf (λ inner. IsCrossLink l.tree.d.now (inner_ends l.tree.d.now l.parts.depth (ends l.tree.d.now l.parts.depth) l.parts.composition l.parts.first inner) (gate_ends l.tree.d.now l.required)) (take l.inner-index l.parts.ports.now)) l.fn.links.list.items l.links.list.items false;
}

abbrev pub invariant-cross_required_parts-loop-inner : goal.invariant-cross_required_parts-loop-inner
invariant-cross_required_parts-loop-inner l = record {
  matched : IsAdding l.tree.d.now l.matched l.links.list.items;
  grown : Grown (AnyOf (λ inner. IsCrossLink l.tree.d.now (gate_ends l.tree.d.now l.provided) (inner_ends l.tree.d.now l.parts.depth (ends l.tree.d.now l.parts.depth) l.parts.composition l.parts.first inner)) (take l.inner-index l.parts.ports.now)) l.fn.links.list.items l.links.list.items false;
}

abbrev pub decreases-cross_split : goal.decreases-cross_split
decreases-cross_split l = 4 * l.splits

abbrev pub decreases-cross_once : goal.decreases-cross_once
decreases-cross_once l = 4 * l.splits + 1

abbrev pub decreases-cross_provided_part : goal.decreases-cross_provided_part
decreases-cross_provided_part l = 4 * l.splits + 2

abbrev pub decreases-cross_required_part : goal.decreases-cross_required_part
decreases-cross_required_part l = 4 * l.splits + 2

abbrev pub decreases-cross_provided_parts : goal.decreases-cross_provided_parts
decreases-cross_provided_parts l = 4 * l.splits + 3

abbrev pub decreases-cross_required_parts : goal.decreases-cross_required_parts
decreases-cross_required_parts l = 4 * l.splits + 3
