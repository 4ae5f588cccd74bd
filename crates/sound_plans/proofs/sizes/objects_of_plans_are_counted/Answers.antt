use Rattle.sound_plans.proofs.Bounded.{objects}
use Rattle.sound_plans.proofs.sizes.objects_of_plans_are_counted.Goals as goal

pub returns : goal.returns
returns c = objects
