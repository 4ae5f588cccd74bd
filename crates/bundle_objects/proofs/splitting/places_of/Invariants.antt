use Rattle.std.proofs.Common.{◌≡◌, map, take}
use Rattle.bus_semantics.specs.Plan.{plan_of}
use Rattle.bundle_objects.specs.Layout.{place_among}
use Rattle.bundle_objects.proofs.splitting.places_of.Given as goal

abbrev pub invariant-loop-event : goal.invariant-loop-event
invariant-loop-event l = l.places.items ≡ map (place_among (plan_of l.p) l.numbers) (take l.event-index l.events)
