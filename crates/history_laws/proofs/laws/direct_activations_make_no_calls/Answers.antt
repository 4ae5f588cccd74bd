use Rattle.history_laws.proofs.Asking as by
use Rattle.history_laws.proofs.laws.direct_activations_make_no_calls.Goals as goal

pub returns : goal.returns
returns c p m k r event start answers w of direct next = by.calls_none p m k r event of start answers w next direct
