use Rattle.machine_objects.proofs.Leading as by
use Rattle.machine_objects.proofs.laws.leads_are_legal.Goals as goal

pub returns-clause-follow : goal.returns-clause-follow
returns-clause-follow c = λ p object. by.leads_follow p object

pub returns-clause-keep : goal.returns-clause-keep
returns-clause-keep c = λ p object. by.leads_keep p object
