use Rattle.bus_laws.proofs.Computing as by
use Rattle.bus_laws.proofs.laws.legal_is_computed.Goals as goal

pub returns-clause-computed : goal.returns-clause-computed
returns-clause-computed c = by.computed

pub returns-clause-computes : goal.returns-clause-computes
returns-clause-computes c = by.computes
