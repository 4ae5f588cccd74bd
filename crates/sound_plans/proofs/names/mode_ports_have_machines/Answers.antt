use Rattle.sound_plans.proofs.ModePorts as by
use Rattle.sound_plans.proofs.names.mode_ports_have_machines.Goals as goal

pub returns : goal.returns
returns c = λ d f p m w. by.all_have d f w.is_flat p w.is_plan
