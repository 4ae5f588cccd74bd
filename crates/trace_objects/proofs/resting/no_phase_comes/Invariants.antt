use Rattle.std.proofs.Common.{◌≡◌, ◌-◌, length}
use Rattle.bus_semantics.specs.Plan.{plan_of}
use Rattle.place_set.specs.Places.{NoneBetween}
use Rattle.port_objects.specs.Objects.{ArePlans}
use Rattle.trace_objects.specs.Unrest.{PhasesAmong}
use Rattle.trace_objects.proofs.resting.no_phase_comes.Given as goal

abbrev pub invariant-loop-machine : goal.invariant-loop-machine
invariant-loop-machine l = record {
  planned : ArePlans (plan_of l.p) l.objects.items;
  same : l.objects.items ≡ l.initial.objects.items;
  among : PhasesAmong (plan_of l.p) l.initial.objects.items l.machines;
  none : NoneBetween l.machines 0 l.from;
}

abbrev pub decreases-loop-machine : goal.decreases-loop-machine
decreases-loop-machine l = length (plan_of l.p).machines - l.from
