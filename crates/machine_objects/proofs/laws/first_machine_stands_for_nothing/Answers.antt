use Rattle.machine_objects.proofs.Opening as by
use Rattle.machine_objects.proofs.laws.first_machine_stands_for_nothing.Goals as goal

pub returns : goal.returns
returns c = λ p object is. by.machine_opens p object is
