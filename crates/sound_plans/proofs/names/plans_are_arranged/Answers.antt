use Rattle.sound_plans.proofs.Arranged as by
use Rattle.sound_plans.proofs.names.plans_are_arranged.Goals as goal

pub returns : goal.returns
returns c = λ d f p m w. by.arranged d f w.well_formed p w.is_plan
