use Rattle.pair_run.proofs.Moments as by
use Rattle.pair_run.proofs.coherence.fetches_one_moment.Goals as goal

pub returns-clause-moment : goal.returns-clause-moment
returns-clause-moment c = by.moment

pub returns-clause-whole : goal.returns-clause-whole
returns-clause-whole c = by.fetches
