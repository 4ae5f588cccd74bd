use Rattle.bus_laws.proofs.QueueLaws as by
use Rattle.bus_laws.proofs.laws.accepted_values_found_room.Goals as goal

pub returns-clause-accepted : goal.returns-clause-accepted
returns-clause-accepted c = by.accepted

pub returns-clause-bounded : goal.returns-clause-bounded
returns-clause-bounded c = by.bounded
