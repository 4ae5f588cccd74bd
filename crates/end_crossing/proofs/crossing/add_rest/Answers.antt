use Rattle.end_search.specs.Gates.{gate_ends}
use Rattle.end_crossing.specs.PortLinks.{IsCrossLink}
use Rattle.end_crossing.proofs.Parting.{grown_parted}
use Rattle.end_crossing.proofs.crossing.add_rest.Goals as goal

pub returns-in_ok-is_full-in-None-clause-grown : goal.returns-in_ok-is_full-in-None-clause-grown
returns-in_ok-is_full-in-None-clause-grown c = grown_parted (IsCrossLink c.args.tree.now.d.now (gate_ends c.args.tree.now.d.now c.args.provided) (gate_ends c.args.tree.now.d.now c.args.required)) c.args.links.now.list.items c.add_within.new.links.list.items c.add_whole.new.links.list.items
    c.in_ok-is_full-in-None.is_full c.in_ok-near.near c.in-None.is c.in_ok-near.ensures.part c.in_ok-is_full-in-None.ensures.grown
