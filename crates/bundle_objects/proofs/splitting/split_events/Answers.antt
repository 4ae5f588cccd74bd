use Rattle.std.proofs.Common.{◌<◌, length, get_or, arith}
use Rattle.bus_semantics.specs.Plan.{plan_of}
use Rattle.bundle_objects.proofs.Made.{among_within}
use Rattle.bundle_objects.proofs.splitting.split_events.Goals as goal

pub append_to-requires : goal.append_to-requires
append_to-requires c =
    omega (arith, c.place_among.ensures, among_within (plan_of c.args.p.now) c.args.numbers.now (get_or c.args.events.now c.loop-event.event-index 0) c.requires.some, c.loop-event.invariant.long)
