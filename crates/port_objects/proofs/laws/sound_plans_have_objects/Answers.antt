use Rattle.port_objects.proofs.Sounds as by
use Rattle.port_objects.proofs.laws.sound_plans_have_objects.Goals as goal

pub returns-clause-asked : goal.returns-clause-asked
returns-clause-asked c = λ p m sound. by.has_objects p m sound (c.queued_groups_of_sound_plans.ensures.group p m) (c.queued_groups_of_sound_plans.ensures.places p m)
    (c.servers_of_sound_plans.ensures.server p m) (c.servers_of_sound_plans.ensures.joined p m) (c.machines_of_sound_plans.ensures.machine p m) (c.machines_of_sound_plans.ensures.theirs p m)

pub returns-clause-touched : goal.returns-clause-touched
returns-clause-touched c = λ p m a w sound fit. by.touches_an_object p m sound a w fit

pub returns-clause-entered : goal.returns-clause-entered
returns-clause-entered c = λ p m n sound fit. by.entry_touches_an_object p m sound n fit
