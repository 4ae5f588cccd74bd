use Rattle.queue_objects.proofs.Resting.{rest_is_held, few_are_held}
use Rattle.queue_objects.proofs.laws.queues_hold_what_was_not_taken.Goals as goal

pub returns-clause-rest : goal.returns-clause-rest
returns-clause-rest c = rest_is_held

pub returns-clause-few : goal.returns-clause-few
returns-clause-few c = few_are_held
