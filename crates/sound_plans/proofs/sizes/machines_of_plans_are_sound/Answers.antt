use Rattle.sound_plans.proofs.Machines.{machines_sound}
use Rattle.sound_plans.proofs.sizes.machines_of_plans_are_sound.Goals as goal

pub returns : goal.returns
returns c = machines_sound
