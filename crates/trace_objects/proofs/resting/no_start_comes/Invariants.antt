use Rattle.std.proofs.Common.{◌≡◌, ◌-◌, length}
use Rattle.bus_semantics.specs.Plan.{plan_of}
use Rattle.place_set.specs.Places.{NoneBetween}
use Rattle.port_objects.specs.Objects.{ArePlans}
use Rattle.trace_objects.specs.Unrest.{StartsAmong}
use Rattle.trace_objects.proofs.resting.no_start_comes.Given as goal

abbrev pub invariant-loop-event : goal.invariant-loop-event
invariant-loop-event l = record {
  planned : ArePlans (plan_of l.p) l.objects.items;
  same : l.objects.items ≡ l.initial.objects.items;
  among : StartsAmong (plan_of l.p) l.initial.objects.items l.events;
  none : NoneBetween l.events 0 l.from;
}

abbrev pub decreases-loop-event : goal.decreases-loop-event
decreases-loop-event l = length (plan_of l.p).events - l.from
