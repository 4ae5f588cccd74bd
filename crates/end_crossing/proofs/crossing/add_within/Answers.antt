use Rattle.end_crossing.proofs.Parting.{cut_found}
use Rattle.end_crossing.proofs.crossing.add_within.Goals as goal

pub returns-clause-cut : goal.returns-clause-cut
returns-clause-cut c = cut_found c.in_ok-answer.answer c.args.limit c.in_ok-first.first.is_cut c.in_ok-second.second.is_cut c.in_ok-first.ensures.cut c.in_ok-second.ensures.cut c.in_ok-answer.ensures.cut
