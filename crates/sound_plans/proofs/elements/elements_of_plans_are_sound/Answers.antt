use Rattle.sound_plans.proofs.Elems.{elements_sound}
use Rattle.sound_plans.proofs.elements.elements_of_plans_are_sound.Goals as goal

pub returns : goal.returns
returns c = elements_sound
