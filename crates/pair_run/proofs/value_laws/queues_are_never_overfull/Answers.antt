use Rattle.pair_run.proofs.Waiting as by
use Rattle.pair_run.proofs.value_laws.queues_are_never_overfull.Goals as goal

pub returns-clause-held : goal.returns-clause-held
returns-clause-held c = by.held

pub returns-clause-places : goal.returns-clause-places
returns-clause-places c = by.places
