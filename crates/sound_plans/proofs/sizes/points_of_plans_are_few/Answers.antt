use Rattle.sound_plans.proofs.Bounded.{few_points}
use Rattle.sound_plans.proofs.sizes.points_of_plans_are_few.Goals as goal

pub returns : goal.returns
returns c = few_points
