use Rattle.sound_plans.proofs.Leading.{groups_sound}
use Rattle.sound_plans.proofs.elements.groups_of_plans_fit.Goals as goal

pub returns : goal.returns
returns c = groups_sound
