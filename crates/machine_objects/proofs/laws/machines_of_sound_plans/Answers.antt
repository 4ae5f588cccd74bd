use Rattle.machine_objects.proofs.Planned as by
use Rattle.machine_objects.proofs.laws.machines_of_sound_plans.Goals as goal

pub returns-clause-machine : goal.returns-clause-machine
returns-clause-machine c = λ p mapping object sound from below. by.machine_planned p mapping sound object from below

pub returns-clause-theirs : goal.returns-clause-theirs
returns-clause-theirs c = λ p mapping sound. by.theirs p mapping sound
