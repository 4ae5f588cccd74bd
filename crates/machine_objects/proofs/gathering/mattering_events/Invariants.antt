use Rattle.std.proofs.Common.{◌≡◌, ℕ, length}
use Rattle.std.specs.Prelude.{filter}
use Rattle.bus_semantics.specs.Plan.{plan_of, positions}
use Rattle.object_kinds.specs.Gathered.{listed_at}
use Rattle.machine_objects.specs.Layout.{matters}
use Rattle.machine_objects.proofs.gathering.mattering_events.Given as goal

abbrev pub invariant-loop-event : goal.invariant-loop-event
invariant-loop-event l = record {
  long : length l.lists.items ≡ length l.p.machines;
  so_far : (machine : ℕ) → listed_at l.lists.items machine ≡ filter (matters (plan_of l.p) machine) (positions l.event);
}
