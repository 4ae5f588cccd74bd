use Rattle.end_search.proofs.Nearing.{on_ok}
use Rattle.end_search.proofs.sides.side_of.Goals as goal

pub returns-clause-near : goal.returns-clause-near
returns-clause-near c = on_ok _ c.side_over-side.result c.in_ok-found.ensures.near
