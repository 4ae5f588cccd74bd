use Rattle.bus_semantics.specs.Common.{and_parts, plan_of}
use Rattle.std.proofs.Common.{length, nat_lt}
use Rattle.task_slots.specs.Look.{look_of}
use Rattle.task_slots.proofs.Starts.{start_tried, start_by, start_looked}
use Rattle.task_slots.proofs.starting.try_event.Goals as goal

pub runnable_of-requires : goal.runnable_of-requires
runnable_of-requires g c = (and_parts (nat_lt c.args.event (length (plan_of c.args.p.now).events)) _ c.requires.there).0

pub try_wish-requires-clause-tried : goal.try_wish-requires-clause-tried
try_wish-requires-clause-tried g c =
    let p = plan_of c.args.p.now in
    let m = c.requires.sound.0 in
    start_tried p m c.requires.sound.1 c.args.event c.runnable_of.result c.requires.there c.runnable_of.ensures
    (λ a w fit. c.sound_plans_have_objects.ensures.touched p m a w c.requires.sound.1 fit)

pub returns-clause-start : goal.returns-clause-start
returns-clause-start g c = start_by (plan_of c.args.p.now) c.args.event c.runnable_of.result c.runnable_of.ensures (look_of c.try_wish.result c.try_wish.new.made.items) c.try_wish.ensures.entry

pub returns-clause-looked : goal.returns-clause-looked
returns-clause-looked g c = start_looked (plan_of c.args.p.now) c.args.event c.runnable_of.result c.runnable_of.ensures _ _ (look_of c.try_wish.result c.try_wish.new.made.items) c.try_wish.ensures.looked
