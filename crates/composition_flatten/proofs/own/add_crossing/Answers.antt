use Rattle.std.proofs.Common.{◌∙◌}
use Rattle.composition_tables.specs.Ends.{ends, inner_ends}
use Rattle.end_search.specs.Gates.{gate_ends}
use Rattle.end_crossing.proofs.SamePorts.{cross_at, no_providers, no_requesters}
use Rattle.composition_flatten.proofs.own.add_crossing.Goals as goal

pub returns-in_ok-is_full-in-Some-inner_gate-clause-grown :
    goal.returns-in_ok-is_full-in-Some-inner_gate-clause-grown
returns-in_ok-is_full-in-Some-inner_gate-clause-grown c = cross_at c.args.tree.now.d.now (gate_ends c.args.tree.now.d.now c.narrowed-first.result) (gate_ends c.args.tree.now.d.now c.narrowed-second.result)
    (inner_ends c.args.tree.now.d.now c.args.depth (ends c.args.tree.now.d.now c.args.depth) c.args.composition 0 c.args.provider) (inner_ends c.args.tree.now.d.now c.args.depth (ends c.args.tree.now.d.now c.args.depth) c.args.composition 0 c.args.requester)
    c.args.links.now.list.items c.cross_gates.new.links.list.items c.in_ok-is_full-in-Some-inner_gate.is_full (c.narrowed-first.ensures.ends ∙ c.in-Some.ensures.ends) (c.narrowed-second.ensures.ends ∙ c.in-Some-inner_gate.ensures.ends) c.in_ok-is_full-in-Some-inner_gate.ensures.grown

pub returns-in-None-inner_gate-clause-grown : goal.returns-in-None-inner_gate-clause-grown
returns-in-None-inner_gate-clause-grown c = no_requesters c.args.tree.now.d.now (inner_ends c.args.tree.now.d.now c.args.depth (ends c.args.tree.now.d.now c.args.depth) c.args.composition 0 c.args.provider)
    (inner_ends c.args.tree.now.d.now c.args.depth (ends c.args.tree.now.d.now c.args.depth) c.args.composition 0 c.args.requester) c.args.links.now.list.items c.in-None-inner_gate.ensures.ends

pub returns-in-None-clause-grown : goal.returns-in-None-clause-grown
returns-in-None-clause-grown c = no_providers c.args.tree.now.d.now (inner_ends c.args.tree.now.d.now c.args.depth (ends c.args.tree.now.d.now c.args.depth) c.args.composition 0 c.args.provider)
    (inner_ends c.args.tree.now.d.now c.args.depth (ends c.args.tree.now.d.now c.args.depth) c.args.composition 0 c.args.requester) c.args.links.now.list.items c.in-None.ensures.ends
