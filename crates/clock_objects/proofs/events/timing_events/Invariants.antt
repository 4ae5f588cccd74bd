use Rattle.std.proofs.Common.{◌≡◌}
use Rattle.std.specs.Prelude.{filter}
use Rattle.bus_semantics.specs.Plan.{plan_of, kind_of, positions}
use Rattle.clock_objects.specs.Layout.{is_timing}
use Rattle.clock_objects.proofs.events.timing_events.Given as goal

abbrev pub invariant-loop-event : goal.invariant-loop-event
invariant-loop-event l = l.events.items ≡ filter (λ e. is_timing (kind_of (plan_of l.p) e)) (positions l.event)
