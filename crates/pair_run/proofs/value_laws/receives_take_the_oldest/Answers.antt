use Rattle.pair_run.proofs.Waiting as by
use Rattle.pair_run.proofs.value_laws.receives_take_the_oldest.Goals as goal

pub returns-clause-oldest : goal.returns-clause-oldest
returns-clause-oldest c = by.oldest

pub returns-clause-none_left : goal.returns-clause-none_left
returns-clause-none_left c = by.none_left
