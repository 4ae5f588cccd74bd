use Rattle.sound_plans.proofs.PointNames.{points_named_once}
use Rattle.sound_plans.proofs.behavior.points_are_named_once.Goals as goal

pub returns : goal.returns
returns c = points_named_once
