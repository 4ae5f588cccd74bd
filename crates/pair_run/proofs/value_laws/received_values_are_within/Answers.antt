use Rattle.pair_run.proofs.Within as by
use Rattle.pair_run.proofs.value_laws.received_values_are_within.Goals as goal

pub returns-clause-accepted : goal.returns-clause-accepted
returns-clause-accepted c = λ p m h elem place words sound legal keeps at. by.accepted p m sound elem h legal keeps place words at

pub returns-clause-received : goal.returns-clause-received
returns-clause-received c = λ p m h e elem code value sound legal keeps is. by.received p m sound h e elem code value legal keeps is
