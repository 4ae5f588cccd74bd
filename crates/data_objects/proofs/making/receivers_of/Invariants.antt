use Rattle.std.proofs.Common.{◌≡◌, map, take}
use Rattle.bus_semantics.specs.Plan.{plan_of}
use Rattle.data_objects.specs.Layout.{receiver_of}
use Rattle.data_objects.proofs.making.receivers_of.Given as goal

abbrev pub invariant-loop-event : goal.invariant-loop-event
invariant-loop-event l = l.receivers.items ≡ map (receiver_of (plan_of l.p) l.group) (take l.event-index l.events)
