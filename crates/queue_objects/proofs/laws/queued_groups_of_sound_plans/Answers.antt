use Rattle.queue_objects.proofs.Planned.{queued_group, few_places}
use Rattle.queue_objects.proofs.laws.queued_groups_of_sound_plans.Goals as goal

pub returns-clause-group : goal.returns-clause-group
returns-clause-group c = λ p m group elem sound inside queued. queued_group p m sound group elem inside queued

pub returns-clause-places : goal.returns-clause-places
returns-clause-places c = few_places
