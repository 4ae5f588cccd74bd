use Rattle.machine_objects.proofs.Missing as by
use Rattle.machine_objects.proofs.laws.leads_miss_nothing.Goals as goal

pub returns : goal.returns
returns c = λ p mapping object sound. by.misses_nothing p mapping object sound
