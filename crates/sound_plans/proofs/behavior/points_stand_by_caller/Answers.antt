use Rattle.sound_plans.proofs.PointsArranged.{points_stand}
use Rattle.sound_plans.proofs.behavior.points_stand_by_caller.Goals as goal

pub returns : goal.returns
returns c = points_stand
