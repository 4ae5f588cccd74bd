use Rattle.std.proofs.Common.{◌≡◌, map, take}
use Rattle.bus_semantics.specs.Plan.{plan_of}
use Rattle.queue_objects.specs.Layout.{receiver_of}
use Rattle.queue_objects.proofs.making.awaited_receivers.Given as goal

abbrev pub invariant-loop-event : goal.invariant-loop-event
invariant-loop-event l = l.awaited.items ≡ map (receiver_of (plan_of l.p) l.group) (take l.event-index l.events)
