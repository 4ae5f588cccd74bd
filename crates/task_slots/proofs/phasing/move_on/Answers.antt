use Rattle.bus_semantics.specs.Plan.{plan_of}
use Rattle.task_slots.specs.Look.{look_of}
use Rattle.task_slots.proofs.Phases.{phase_tried, phase_looks}
use Rattle.task_slots.proofs.phasing.move_on.Goals as goal

pub try_wish-requires-clause-tried : goal.try_wish-requires-clause-tried
try_wish-requires-clause-tried g c =
    let p = plan_of c.args.p.now in
    phase_tried p c.args.number c.requires.there (λ a w fit. c.sound_plans_have_objects.ensures.touched p c.requires.sound.0 a w c.requires.sound.1 fit)

pub returns-clause-slot : goal.returns-clause-slot
returns-clause-slot g c = λ t. phase_looks (plan_of c.args.p.now) t c.args.number c.requires.there (look_of c.try_wish.result c.try_wish.new.made.items) c.try_wish.ensures.entry
