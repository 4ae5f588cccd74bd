use Rattle.sound_plans.proofs.NamesFit as fit
use Rattle.sound_plans.proofs.Paths as paths
use Rattle.sound_plans.proofs.PortUses as ports
use Rattle.sound_plans.proofs.names.names_of_plans_fit.Goals as goal

pub returns-clause-fit : goal.returns-clause-fit
returns-clause-fit c = λ d f p m w. fit.all_fit d f w.well_formed w.keeps_rules w.is_flat p w.is_plan

pub returns-clause-env : goal.returns-clause-env
returns-clause-env c = λ d f p m w. paths.no_env d f w.is_flat p w.is_plan w.well_formed

pub returns-clause-ports : goal.returns-clause-ports
returns-clause-ports c = λ d f p m w. ports.all_agree d f w.well_formed p w.is_plan w.keeps_rules
