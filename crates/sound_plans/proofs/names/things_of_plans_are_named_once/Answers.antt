use Rattle.sound_plans.proofs.Distinct as by
use Rattle.sound_plans.proofs.names.things_of_plans_are_named_once.Goals as goal

pub returns-clause-instances : goal.returns-clause-instances
returns-clause-instances c = λ d f p m w. by.names_once d f w.well_formed p w.is_plan w.is_flat

pub returns-clause-elements : goal.returns-clause-elements
returns-clause-elements c = λ d f p m w. by.elements_once d f w.well_formed p w.is_plan

pub returns-clause-servers : goal.returns-clause-servers
returns-clause-servers c = λ d f p m w. by.servers_once d f w.well_formed p w.is_plan

pub returns-clause-areas : goal.returns-clause-areas
returns-clause-areas c = λ d f p m w. by.areas_once d f w.well_formed p w.is_plan

pub returns-clause-machines : goal.returns-clause-machines
returns-clause-machines c = λ d f p m w. by.machines_once d f w.well_formed p w.is_plan

pub returns-clause-modes : goal.returns-clause-modes
returns-clause-modes c = λ d f p m w. by.modes_once d f w.well_formed p w.is_plan

pub returns-clause-mode_ports : goal.returns-clause-mode_ports
returns-clause-mode_ports c = λ d f p m w. by.mode_ports_once d f w.well_formed p w.is_plan

pub returns-clause-events : goal.returns-clause-events
returns-clause-events c = λ d f p m w. by.events_once d f w.well_formed p w.is_plan

pub returns-clause-runnables : goal.returns-clause-runnables
returns-clause-runnables c = λ d f p m w. by.runnables_once d f w.well_formed p w.is_plan
