use Rattle.std.proofs.Common.{◌≡◌, map, take}
use Rattle.bus_semantics.specs.Plan.{plan_of}
use Rattle.machine_objects.specs.Layout.{moment_at}
use Rattle.machine_objects.proofs.making.moments_of.Given as goal

abbrev pub invariant-loop-event : goal.invariant-loop-event
invariant-loop-event l = l.moments.items ≡ map (moment_at (plan_of l.p)) (take l.event-index l.events)
