use Rattle.sound_plans.proofs.Together as by
use Rattle.sound_plans.proofs.names.ports_stand_together.Goals as goal

pub returns : goal.returns
returns c = λ d f p m w. by.all_together_by_port d f w.well_formed p w.is_plan
