use Rattle.std.proofs.Common.{◌≡◌, take}
use Rattle.std.specs.Prelude.{filter}
use Rattle.bus_semantics.specs.Plan.{plan_of, kind_of}
use Rattle.machine_objects.specs.Layout.{waits_for_phase}
use Rattle.machine_objects.proofs.making.switch_events.Given as goal

abbrev pub invariant-loop-event : goal.invariant-loop-event
invariant-loop-event l = l.picked.items ≡ filter (λ e. waits_for_phase l.machine (kind_of (plan_of l.p) e)) (take l.event-index l.events)
