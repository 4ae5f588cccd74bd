use Rattle.std.proofs.Common.{sym}
use Rattle.bus_semantics.specs.declared.entries.Actor.TheVariants.{Env}
use Rattle.bus_semantics.specs.Common.{plan_of, wanted_of}
use Rattle.live_lanes.proofs.calling.call.Goals as goal

pub object_of-requires : goal.object_of-requires
object_of-requires g c = record { within = c.sound_plans_have_objects.ensures.touched (plan_of c.args.p.now) c.requires.sound.0 Env (wanted_of c.args.wish.now) c.requires.sound.1 c.requires.fits }
