use Rattle.sound_plans.proofs.Events.{events_sound}
use Rattle.sound_plans.proofs.behavior.events_fit.Goals as goal

pub returns : goal.returns
returns c = events_sound
