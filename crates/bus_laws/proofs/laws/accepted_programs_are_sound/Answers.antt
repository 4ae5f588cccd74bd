use Rattle.bus_laws.proofs.Accepted as by
use Rattle.bus_laws.proofs.laws.accepted_programs_are_sound.Goals as goal

pub returns-clause-statements : goal.returns-clause-statements
returns-clause-statements c = by.statements_sound

pub returns-clause-cost : goal.returns-clause-cost
returns-clause-cost c = by.cost_sound

pub returns-clause-vars : goal.returns-clause-vars
returns-clause-vars c = by.vars_sound
