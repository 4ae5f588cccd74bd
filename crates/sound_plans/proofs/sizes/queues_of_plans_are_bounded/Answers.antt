use Rattle.sound_plans.proofs.Bounded.{lengths}
use Rattle.sound_plans.proofs.sizes.queues_of_plans_are_bounded.Goals as goal

pub returns : goal.returns
returns c = lengths
