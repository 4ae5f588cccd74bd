use Rattle.sound_plans.proofs.Joins.{joins_sound}
use Rattle.sound_plans.proofs.elements.joined_elements_of_plans_agree.Goals as goal

pub returns : goal.returns
returns c = joins_sound
