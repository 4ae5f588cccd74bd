use Rattle.sound_plans.proofs.Runnables.{runnables_sound}
use Rattle.sound_plans.proofs.behavior.runnables_fit.Goals as goal

pub returns : goal.returns
returns c = runnables_sound (record {
  statements = c.accepted_programs_are_sound.ensures.statements;
  cost = c.accepted_programs_are_sound.ensures.cost;
  vars = c.accepted_programs_are_sound.ensures.vars;
})
