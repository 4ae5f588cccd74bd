use Rattle.std.proofs.Common.{◌≡◌, map, take}
use Rattle.bus_semantics.specs.Plan.{plan_of}
use Rattle.server_objects.specs.Layout.{awaited_by}
use Rattle.server_objects.proofs.making.awaited_places.Given as goal

abbrev pub invariant-loop-event : goal.invariant-loop-event
invariant-loop-event l = l.awaited.items ≡ map (awaited_by (plan_of l.p) l.server) (take l.event-index l.returns)
