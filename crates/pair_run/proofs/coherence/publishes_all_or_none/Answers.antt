use Rattle.pair_run.proofs.Moments as by
use Rattle.pair_run.proofs.coherence.publishes_all_or_none.Goals as goal

pub returns-clause-all : goal.returns-clause-all
returns-clause-all c = by.all

pub returns-clause-none : goal.returns-clause-none
returns-clause-none c = by.none
