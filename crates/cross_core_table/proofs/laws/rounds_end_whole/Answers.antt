use Rattle.cross_core_table.proofs.Ends as ends
use Rattle.cross_core_table.proofs.laws.rounds_end_whole.Goals as goal

pub returns : goal.returns
returns c = ends.ends_whole c.leads_are_legal.ensures.stands
