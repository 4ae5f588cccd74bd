use Rattle.queue_objects.proofs.Opening.{object_opens}
use Rattle.queue_objects.proofs.laws.first_queues_stand_for_nothing.Goals as goal

pub returns : goal.returns
returns c = object_opens
