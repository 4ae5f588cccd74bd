use Rattle.sound_plans.proofs.Coherent.{coherent_lists}
use Rattle.sound_plans.proofs.behavior.lists_of_plans_are_sound.Goals as goal

pub returns : goal.returns
returns c = coherent_lists
