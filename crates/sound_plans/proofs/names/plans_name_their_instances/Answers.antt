use Rattle.sound_plans.proofs.Existing as by
use Rattle.sound_plans.proofs.names.plans_name_their_instances.Goals as goal

pub returns : goal.returns
returns c = λ d f p m w. by.all_exist d f p w.is_plan
