use Rattle.history_laws.proofs.Hearing as by
use Rattle.history_laws.proofs.servers.hearers_have_asked.Goals as goal

pub returns-clause-asked : goal.returns-clause-asked
returns-clause-asked c = by.has_asked

pub returns-clause-outstanding : goal.returns-clause-outstanding
returns-clause-outstanding c = by.still_outstanding
