use Rattle.std.proofs.Common.{◌≡◌, map, take}
use Rattle.bus_semantics.specs.Plan.{plan_of, kind_of}
use Rattle.clock_objects.specs.Layout.{period_in}
use Rattle.clock_objects.proofs.events.periods_of.Given as goal

abbrev pub invariant-loop-event : goal.invariant-loop-event
invariant-loop-event l = l.periods.items ≡ map (λ e. period_in (kind_of (plan_of l.p) e)) (take l.event-index l.events)
