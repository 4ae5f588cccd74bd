use Rattle.history_laws.proofs.Disabled as by
use Rattle.history_laws.proofs.modes.none_disabled_runs.Goals as goal

pub returns-clause-waiting : goal.returns-clause-waiting
returns-clause-waiting c = by.waiting

pub returns-clause-first : goal.returns-clause-first
returns-clause-first c = by.before_the_first
