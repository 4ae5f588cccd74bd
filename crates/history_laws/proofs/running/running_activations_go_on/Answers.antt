use Rattle.history_laws.proofs.GoingOn as by
use Rattle.history_laws.proofs.running.running_activations_go_on.Goals as goal

pub returns : goal.returns
returns c = by.goes_on
