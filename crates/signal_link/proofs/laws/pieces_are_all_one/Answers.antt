use Rattle.signal_link.proofs.Streams.{fed_all, what_was_sent}
use Rattle.signal_link.proofs.laws.pieces_are_all_one.Goals as goal

pub returns-clause-stands : goal.returns-clause-stands
returns-clause-stands c = fed_all

pub returns-clause-sent : goal.returns-clause-sent
returns-clause-sent c = what_was_sent
