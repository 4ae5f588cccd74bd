use Rattle.std.proofs.Common.{ap, Some}
use Rattle.end_search.specs.Gates.{gate_ends}
use Rattle.end_crossing.specs.PortLinks.{IsCrossLink}
use Rattle.composition_flatten.specs.Links.{outer_link}
use Rattle.composition_flatten.proofs.Wholes.{between}
use Rattle.composition_flatten.proofs.whole.add_by_kind.Goals as goal

pub returns-in_ok-is_full-in-Required-clause-grown :
    goal.returns-in_ok-is_full-in-Required-clause-grown
returns-in_ok-is_full-in-Required-clause-grown c = between c.args.tree.now.d.now (Some c.args.kind) (gate_ends c.args.tree.now.d.now c.args.own) (gate_ends c.args.tree.now.d.now c.args.inner) (IsCrossLink c.args.tree.now.d.now (gate_ends c.args.tree.now.d.now c.args.own) (gate_ends c.args.tree.now.d.now c.args.inner)) c.args.links.now.list.items c.cross_gates.new.links.list.items c.in_ok-is_full-in-Required.is_full
    (ap (λ k. outer_link (Some k) c.args.tree.now.d.now (gate_ends c.args.tree.now.d.now c.args.own) (gate_ends c.args.tree.now.d.now c.args.inner)) c.in-Required.is) c.in_ok-is_full-in-Required.ensures.grown

pub returns-in_ok-is_full-in-Provided-clause-grown :
    goal.returns-in_ok-is_full-in-Provided-clause-grown
returns-in_ok-is_full-in-Provided-clause-grown c = between c.args.tree.now.d.now (Some c.args.kind) (gate_ends c.args.tree.now.d.now c.args.own) (gate_ends c.args.tree.now.d.now c.args.inner) (IsCrossLink c.args.tree.now.d.now (gate_ends c.args.tree.now.d.now c.args.inner) (gate_ends c.args.tree.now.d.now c.args.own)) c.args.links.now.list.items c.cross_gates-in-Provided.new.links.list.items c.in_ok-is_full-in-Provided.is_full
    (ap (λ k. outer_link (Some k) c.args.tree.now.d.now (gate_ends c.args.tree.now.d.now c.args.own) (gate_ends c.args.tree.now.d.now c.args.inner)) c.in-Provided.is) c.in_ok-is_full-in-Provided.ensures.grown
