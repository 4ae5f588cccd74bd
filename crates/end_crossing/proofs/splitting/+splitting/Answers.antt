use Rattle.std.proofs.Common.{◌∙◌, refl, subst}
use Rattle.end_crossing.specs.declared.crossings.Crossing.TheVariants.{Gates}
use Rattle.composition_tables.specs.Ends.{ends, inner_ends}
use Rattle.end_search.specs.Gates.{gate_ends}
use Rattle.description_types.specs.Growing.{Grown}
use Rattle.end_crossing.specs.PortLinks.{IsCrossLink}
use Rattle.description_types.specs.declared.description.InnerPort.{InnerPort}
use Rattle.end_crossing.proofs.ByParts.{provided_parts, required_parts}
use Rattle.end_crossing.proofs.Grouping.{crossed_before, crossed_now}
use Rattle.end_crossing.proofs.SamePorts.{cross_at, no_providers, no_requesters}
use Rattle.composition_tables.proofs.Growth.{grown_more, grown_full, grown_all}
use Rattle.end_crossing.proofs.splitting.+splitting.Goals as goal

-- an inner port past the end of a list
abbrev no_inner : InnerPort
no_inner = record { prototype = 0; port = 0 }

pub cross_provided_part-returns-in_ok-is_full-in-Some-clause-grown : goal.cross_provided_part-returns-in_ok-is_full-in-Some-clause-grown
cross_provided_part-returns-in_ok-is_full-in-Some-clause-grown t c = cross_at c.args.tree.now.d.now (gate_ends c.args.tree.now.d.now c.narrowed-part.result) (gate_ends c.args.tree.now.d.now c.args.required) (inner_ends c.args.tree.now.d.now c.args.parts.now.depth (ends c.args.tree.now.d.now c.args.parts.now.depth) c.args.parts.now.composition c.args.parts.now.first c.args.inner) (gate_ends c.args.tree.now.d.now c.args.required)
    c.args.links.now.list.items c.cross_once.new.links.list.items c.in_ok-is_full-in-Some.is_full (c.narrowed-part.ensures.ends ∙ c.in-Some.ensures.ends) refl c.in_ok-is_full-in-Some.ensures.grown

pub cross_provided_part-returns-in-None-clause-grown : goal.cross_provided_part-returns-in-None-clause-grown
cross_provided_part-returns-in-None-clause-grown t c = no_providers c.args.tree.now.d.now (inner_ends c.args.tree.now.d.now c.args.parts.now.depth (ends c.args.tree.now.d.now c.args.parts.now.depth) c.args.parts.now.composition c.args.parts.now.first c.args.inner) (gate_ends c.args.tree.now.d.now c.args.required) c.args.links.now.list.items c.in-None.ensures.ends

pub cross_required_part-returns-in_ok-is_full-in-Some-clause-grown : goal.cross_required_part-returns-in_ok-is_full-in-Some-clause-grown
cross_required_part-returns-in_ok-is_full-in-Some-clause-grown t c = cross_at c.args.tree.now.d.now (gate_ends c.args.tree.now.d.now c.args.provided) (gate_ends c.args.tree.now.d.now c.narrowed-part.result) (gate_ends c.args.tree.now.d.now c.args.provided) (inner_ends c.args.tree.now.d.now c.args.parts.now.depth (ends c.args.tree.now.d.now c.args.parts.now.depth) c.args.parts.now.composition c.args.parts.now.first c.args.inner)
    c.args.links.now.list.items c.cross_once.new.links.list.items c.in_ok-is_full-in-Some.is_full refl (c.narrowed-part.ensures.ends ∙ c.in-Some.ensures.ends) c.in_ok-is_full-in-Some.ensures.grown

pub cross_required_part-returns-in-None-clause-grown : goal.cross_required_part-returns-in-None-clause-grown
cross_required_part-returns-in-None-clause-grown t c = no_requesters c.args.tree.now.d.now (gate_ends c.args.tree.now.d.now c.args.provided) (inner_ends c.args.tree.now.d.now c.args.parts.now.depth (ends c.args.tree.now.d.now c.args.parts.now.depth) c.args.parts.now.composition c.args.parts.now.first c.args.inner) c.args.links.now.list.items c.in-None.ensures.ends

pub cross_provided_parts-loop-inner-preserved : goal.cross_provided_parts-loop-inner-preserved
cross_provided_parts-loop-inner-preserved t c = record {
  matched = c.in_ok-cross_provided_part.ensures.matched;
  grown = grown_more (λ inner. IsCrossLink c.args.tree.now.d.now (inner_ends c.args.tree.now.d.now c.args.parts.now.depth (ends c.args.tree.now.d.now c.args.parts.now.depth) c.args.parts.now.composition c.args.parts.now.first inner) (gate_ends c.args.tree.now.d.now c.args.required)) c.args.parts.now.ports.now c.loop-inner.inner-index no_inner c.args.links.now.list.items c.loop-inner.links.list.items c.cross_provided_part.new.links.list.items c.in_ok-cross_provided_part.field-0
      c.loop-inner-test.true c.loop-inner.invariant.grown c.in_ok-cross_provided_part.ensures.grown c.if-branch.false;
}

pub cross_provided_parts-returns-then-branch : goal.cross_provided_parts-returns-then-branch
cross_provided_parts-returns-then-branch t c = record {
  matched = c.in_ok-cross_provided_part.ensures.matched;
  grown = provided_parts c.args.tree.now.d.now (inner_ends c.args.tree.now.d.now c.args.parts.now.depth (ends c.args.tree.now.d.now c.args.parts.now.depth) c.args.parts.now.composition c.args.parts.now.first) c.args.parts.now.ports.now (gate_ends c.args.tree.now.d.now c.args.required) c.args.links.now.list.items c.cross_provided_part.new.links.list.items _
      (grown_full (λ inner. IsCrossLink c.args.tree.now.d.now (inner_ends c.args.tree.now.d.now c.args.parts.now.depth (ends c.args.tree.now.d.now c.args.parts.now.depth) c.args.parts.now.composition c.args.parts.now.first inner) (gate_ends c.args.tree.now.d.now c.args.required)) c.args.parts.now.ports.now c.loop-inner.inner-index no_inner c.args.links.now.list.items c.loop-inner.links.list.items c.cross_provided_part.new.links.list.items c.in_ok-cross_provided_part.field-0
      c.loop-inner-test.true c.loop-inner.invariant.grown c.in_ok-cross_provided_part.ensures.grown c.if-branch.true);
}

pub cross_provided_parts-returns : goal.cross_provided_parts-returns
cross_provided_parts-returns t c = record {
  matched = c.loop-inner.invariant.matched;
  grown = provided_parts c.args.tree.now.d.now (inner_ends c.args.tree.now.d.now c.args.parts.now.depth (ends c.args.tree.now.d.now c.args.parts.now.depth) c.args.parts.now.composition c.args.parts.now.first) c.args.parts.now.ports.now (gate_ends c.args.tree.now.d.now c.args.required) c.args.links.now.list.items c.loop-inner.links.list.items _
      (grown_all (λ inner. IsCrossLink c.args.tree.now.d.now (inner_ends c.args.tree.now.d.now c.args.parts.now.depth (ends c.args.tree.now.d.now c.args.parts.now.depth) c.args.parts.now.composition c.args.parts.now.first inner) (gate_ends c.args.tree.now.d.now c.args.required)) c.args.parts.now.ports.now c.loop-inner.inner-index c.args.links.now.list.items c.loop-inner.links.list.items c.loop-inner-test.false c.loop-inner.invariant.grown);
}

pub cross_required_parts-loop-inner-preserved : goal.cross_required_parts-loop-inner-preserved
cross_required_parts-loop-inner-preserved t c = record {
  matched = c.in_ok-cross_required_part.ensures.matched;
  grown = grown_more (λ inner. IsCrossLink c.args.tree.now.d.now (gate_ends c.args.tree.now.d.now c.args.provided) (inner_ends c.args.tree.now.d.now c.args.parts.now.depth (ends c.args.tree.now.d.now c.args.parts.now.depth) c.args.parts.now.composition c.args.parts.now.first inner)) c.args.parts.now.ports.now c.loop-inner.inner-index no_inner c.args.links.now.list.items c.loop-inner.links.list.items c.cross_required_part.new.links.list.items c.in_ok-cross_required_part.field-0
      c.loop-inner-test.true c.loop-inner.invariant.grown c.in_ok-cross_required_part.ensures.grown c.if-branch.false;
}

pub cross_required_parts-returns-then-branch : goal.cross_required_parts-returns-then-branch
cross_required_parts-returns-then-branch t c = record {
  matched = c.in_ok-cross_required_part.ensures.matched;
  grown = required_parts c.args.tree.now.d.now (inner_ends c.args.tree.now.d.now c.args.parts.now.depth (ends c.args.tree.now.d.now c.args.parts.now.depth) c.args.parts.now.composition c.args.parts.now.first) c.args.parts.now.ports.now (gate_ends c.args.tree.now.d.now c.args.provided) c.args.links.now.list.items c.cross_required_part.new.links.list.items _
      (grown_full (λ inner. IsCrossLink c.args.tree.now.d.now (gate_ends c.args.tree.now.d.now c.args.provided) (inner_ends c.args.tree.now.d.now c.args.parts.now.depth (ends c.args.tree.now.d.now c.args.parts.now.depth) c.args.parts.now.composition c.args.parts.now.first inner)) c.args.parts.now.ports.now c.loop-inner.inner-index no_inner c.args.links.now.list.items c.loop-inner.links.list.items c.cross_required_part.new.links.list.items c.in_ok-cross_required_part.field-0
      c.loop-inner-test.true c.loop-inner.invariant.grown c.in_ok-cross_required_part.ensures.grown c.if-branch.true);
}

pub cross_required_parts-returns : goal.cross_required_parts-returns
cross_required_parts-returns t c = record {
  matched = c.loop-inner.invariant.matched;
  grown = required_parts c.args.tree.now.d.now (inner_ends c.args.tree.now.d.now c.args.parts.now.depth (ends c.args.tree.now.d.now c.args.parts.now.depth) c.args.parts.now.composition c.args.parts.now.first) c.args.parts.now.ports.now (gate_ends c.args.tree.now.d.now c.args.provided) c.args.links.now.list.items c.loop-inner.links.list.items _
      (grown_all (λ inner. IsCrossLink c.args.tree.now.d.now (gate_ends c.args.tree.now.d.now c.args.provided) (inner_ends c.args.tree.now.d.now c.args.parts.now.depth (ends c.args.tree.now.d.now c.args.parts.now.depth) c.args.parts.now.composition c.args.parts.now.first inner)) c.args.parts.now.ports.now c.loop-inner.inner-index c.args.links.now.list.items c.loop-inner.links.list.items c.loop-inner-test.false c.loop-inner.invariant.grown);
}

pub cross_once-returns-then-is_crossed-clause-grown : goal.cross_once-returns-then-is_crossed-clause-grown
cross_once-returns-then-is_crossed-clause-grown t c = crossed_before c.args.tree.now.d.now c.args.matched.now c.args.links.now.list.items c.requires.matched (Gates c.args.provided c.args.required) (c.is_crossed.ensures.0 c.if-is_crossed.true)

pub cross_once-returns-clause-matched : goal.cross_once-returns-clause-matched
cross_once-returns-clause-matched t c = crossed_now c.args.tree.now.d.now c.cross_split.new.matched c.cross_split.new.links.list.items c.in_ok-cross_split.ensures.matched (Gates c.args.provided c.args.required) c.note_crossed.new.self
    c.note_crossed.ensures.listed c.note_crossed.ensures.kept c.note_crossed.ensures.sides c.note_crossed.ensures.near c.note_crossed.ensures.done c.in_ok-note_crossed.ensures.crossed (λ x h. c.in_ok-cross_split.ensures.grown.has c.if-branch.false x h)

pub cross_once-returns-then-branch-clause-grown : goal.cross_once-returns-then-branch-clause-grown
cross_once-returns-then-branch-clause-grown t c = subst (Grown (IsCrossLink c.args.tree.now.d.now (gate_ends c.args.tree.now.d.now c.args.provided) (gate_ends c.args.tree.now.d.now c.args.required)) c.args.links.now.list.items c.cross_split.new.links.list.items) c.if-branch.true c.in_ok-cross_split.ensures.grown

pub cross_once-returns-clause-grown : goal.cross_once-returns-clause-grown
cross_once-returns-clause-grown t c = subst (Grown (IsCrossLink c.args.tree.now.d.now (gate_ends c.args.tree.now.d.now c.args.provided) (gate_ends c.args.tree.now.d.now c.args.required)) c.args.links.now.list.items c.cross_split.new.links.list.items) c.if-branch.false c.in_ok-cross_split.ensures.grown
