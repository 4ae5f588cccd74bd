use Rattle.std.proofs.Common.{arith}
use Rattle.bus_semantics.specs.Plan.{plan_of}
use Rattle.declared_names.proofs.Reading.{short_few}
use Rattle.row_texts.proofs.readings.plan_of_description.Goals as goal

pub returns-in-Ok-clause-sound : goal.returns-in-Ok-clause-sound
returns-in-Ok-clause-sound c = c.in-Ok.ensures.planned.is_sound

pub returns-in-Ok-clause-readable : goal.returns-in-Ok-clause-readable
returns-in-Ok-clause-readable c = c.sound_plans_are_readable.ensures (plan_of c.in-Ok.found.plan) c.in-Ok.found.mapping c.in-Ok.ensures.planned.is_sound

pub plan_description-requires : goal.plan_description-requires
plan_description-requires c = short_few c.args.description.now (omega (arith, c.requires))
