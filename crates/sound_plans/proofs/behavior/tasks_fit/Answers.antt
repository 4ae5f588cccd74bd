use Rattle.sound_plans.proofs.Owed.{tasks_sound}
use Rattle.sound_plans.proofs.behavior.tasks_fit.Goals as goal

pub returns : goal.returns
returns c = tasks_sound
