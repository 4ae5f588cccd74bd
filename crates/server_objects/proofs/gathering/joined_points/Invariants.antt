use Rattle.std.proofs.Common.{◌≡◌, ℕ, length}
use Rattle.std.specs.Prelude.{filter}
use Rattle.bus_semantics.specs.Plan.{plan_of, positions}
use Rattle.object_kinds.specs.Gathered.{listed_at}
use Rattle.server_objects.specs.Layout.{is_joined_to}
use Rattle.server_objects.proofs.gathering.joined_points.Given as goal

abbrev pub invariant-loop-point : goal.invariant-loop-point
invariant-loop-point l = record {
  long : length l.lists.items ≡ length l.p.servers;
  so_far : (s : ℕ) → listed_at l.lists.items s ≡ filter (is_joined_to (plan_of l.p) s) (positions l.point);
}
