use Rattle.end_crossing.proofs.Grouping.{grouped}
use Rattle.end_crossing.proofs.cross.add_provided.Goals as goal

pub returns-clause-grown : goal.returns-clause-grown
returns-clause-grown c = λ ends left has. grouped c.args.d.now ends c.args.required.now c.args.pairs.now c.args.provided.now c.in_ok-second.second left c.in_ok-second.ensures has
    c.args.links.now.list.items c.add_grouped.new.links.list.items c.in_ok-is_full.is_full c.in_ok-is_full.ensures.grown
