use Rattle.end_search.specs.Gates.{gate_ends}
use Rattle.end_crossing.proofs.Parting.{known_full, known_rest}
use Rattle.end_crossing.proofs.crossing.add_cut.Goals as goal

pub returns-then-branch-clause-grown : goal.returns-then-branch-clause-grown
returns-then-branch-clause-grown c = known_full c.args.tree.now.d.now (gate_ends c.args.tree.now.d.now c.args.provided) (gate_ends c.args.tree.now.d.now c.args.required) c.args.pairs.now
    c.args.first.now.groups c.args.second.now.groups c.requires.first.sound c.requires.second.sound c.args.links.now.list.items c.add_grouped.new.links.list.items c.in_ok-add_grouped.field-0 c.if-branch.true c.in_ok-add_grouped.ensures.grown

pub returns-clause-grown : goal.returns-clause-grown
returns-clause-grown c = known_rest c.args.tree.now.d.now (gate_ends c.args.tree.now.d.now c.args.provided) (gate_ends c.args.tree.now.d.now c.args.required) c.args.pairs.now
    c.args.first.now.groups c.args.second.now.groups c.requires.first.sound c.requires.second.sound c.args.links.now.list.items c.add_grouped.new.links.list.items c.add_rest.new.links.list.items c.in_ok-add_grouped.field-0 c.in_ok-is_full.is_full
    c.in_ok-add_grouped.ensures.grown c.in_ok-is_full.ensures.grown
