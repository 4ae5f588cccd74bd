use Rattle.std.proofs.Common.{◌≡◌, ℕ, length}
use Rattle.std.specs.Prelude.{filter}
use Rattle.bus_semantics.specs.Plan.{plan_of, kind_of, positions}
use Rattle.object_kinds.specs.Gathered.{listed_at}
use Rattle.server_objects.specs.Layout.{returns_for}
use Rattle.server_objects.proofs.gathering.return_events.Given as goal

abbrev pub invariant-loop-event : goal.invariant-loop-event
invariant-loop-event l = record {
  long : length l.lists.items ≡ length l.p.servers;
  so_far : (s : ℕ) → listed_at l.lists.items s ≡ filter (λ e. returns_for (plan_of l.p) s (kind_of (plan_of l.p) e)) (positions l.event);
}
