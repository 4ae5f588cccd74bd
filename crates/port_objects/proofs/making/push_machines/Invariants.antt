use Rattle.std.proofs.Common.{◌≡◌, ◌≤◌, ◌++◌, ℕ, length, map}
use Rattle.bus_semantics.specs.Plan.{plan_of, positions}
use Rattle.object_kinds.specs.Gathered.{listed_at}
use Rattle.machine_objects.specs.Layout.{machine_events}
use Rattle.port_objects.specs.Opening.{before_machines, opening_of_machine, AreFirst}
use Rattle.port_objects.proofs.making.push_machines.Given as goal

abbrev pub invariant-loop-machine : goal.invariant-loop-machine
invariant-loop-machine l = record {
  long : length l.mattering.items ≡ length l.p.machines;
  left : (machine : ℕ) → l.machine ≤ machine → listed_at l.mattering.items machine ≡ machine_events (plan_of l.p) machine;
  first : AreFirst (plan_of l.p) (before_machines (plan_of l.p) ++ map (opening_of_machine (plan_of l.p)) (positions l.machine)) l.objects.items;
}
