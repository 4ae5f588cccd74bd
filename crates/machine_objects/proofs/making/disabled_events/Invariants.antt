use Rattle.std.proofs.Common.{◌≡◌, take}
use Rattle.std.specs.Prelude.{filter}
use Rattle.bus_semantics.specs.Plan.{plan_of}
use Rattle.machine_objects.specs.Layout.{may_disable}
use Rattle.machine_objects.proofs.making.disabled_events.Given as goal

abbrev pub invariant-loop-event : goal.invariant-loop-event
invariant-loop-event l = l.picked.items ≡ filter (may_disable (plan_of l.p) l.machine) (take l.event-index l.events)
