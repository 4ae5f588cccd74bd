use Rattle.history_laws.proofs.Asking as by
use Rattle.history_laws.proofs.laws.activations_go_on.Goals as goal

pub returns : goal.returns
returns c p m k r event start answers of followed none = by.goes_on_asking p m k r event of start answers followed none
