use Rattle.bus_semantics.specs.Plan.{plan_of}
use Rattle.server_objects.proofs.Facts.{points_rise}
use Rattle.server_objects.proofs.making.awaited_place.Goals as goal

pub find-requires : goal.find-requires
find-requires c = points_rise (plan_of c.args.p.now) c.args.server c.args.points.now c.requires
