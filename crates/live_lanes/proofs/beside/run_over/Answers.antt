use Rattle.std.proofs.Common.{rules}
use Rattle.bus_semantics.specs.Plan.{plan_of}
use Rattle.live_lanes.specs.Beside.{HasBegun}
use Rattle.live_lanes.proofs.beside.run_over.Goals as goal

pub open-requires-clause-sound : goal.open-requires-clause-sound
open-requires-clause-sound g c = c.sound_plans_have_objects.ensures.asked (plan_of c.args.p.now) c.requires.lawful.mapping c.requires.lawful.sound

pub returns-in-Ready : goal.returns-in-Ready
returns-in-Ready g c =
    let begun : HasBegun g.F.Feeding.lengths (plan_of c.args.p.now) c.args.work.objects.items (record { round = c.in-Ready.round; seats = c.in-Ready.seats; cores = c.args.work.cores; queued = c.in-Ok-new.queued; places = c.in-Ok.places }) = search rules in
    c.run_begun.ensures c.args.work.objects.items begun c.requires.planned
