use Rattle.std.proofs.Common.{[]}
use Rattle.bus_semantics.specs.Plan.{plan_of}
use Rattle.core_runtime.proofs.NewNodes.{new_lawful, new_room}
use Rattle.core_runtime.proofs.node.Node.new.Goals as goal

pub begin-requires-clause-objects : goal.begin-requires-clause-objects
begin-requires-clause-objects c = c.sound_plans_have_objects.ensures.asked (plan_of c.args.p) c.args.m c.requires.sound

pub returns-in-Ok-clause-lawful : goal.returns-in-Ok-clause-lawful
returns-in-Ok-clause-lawful c =
    let new = c.in-Ok.ensures in
    new_lawful (plan_of c.args.p) c.args.m c.args.t _ _ c.requires.sound new.cores new.planned.count new.count new.standing

pub invariant_of-result : goal.invariant_of-result
invariant_of-result c =
    let new = c.in-Ok.ensures in (
      record {
        sound = c.requires.sound;
        bodies = c.requires.bodies;
        counted = c.sound_plans_have_objects.ensures.asked (plan_of c.args.p) c.args.m c.requires.sound;
        planned = new.planned;
        cores_are = new.count;
        room = new_room (plan_of c.args.p) c.args.m c.args.t _ _ c.requires.sound new.cores new.planned.count new.count new.standing;
        history = [];
        lawful = new_lawful (plan_of c.args.p) c.args.m c.args.t _ _ c.requires.sound new.cores new.planned.count new.count new.standing;
      },
      new.watched,
    )
