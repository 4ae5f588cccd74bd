use Rattle.sound_plans.proofs.Waits.{order_sound}
use Rattle.sound_plans.proofs.behavior.waits_are_ordered.Goals as goal

pub returns : goal.returns
returns c = order_sound
