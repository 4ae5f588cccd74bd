use Rattle.std.proofs.Common.{◌≡◌, ℕ, length}
use Rattle.std.specs.Prelude.{filter}
use Rattle.bus_semantics.specs.Plan.{plan_of, kind_of, positions}
use Rattle.object_kinds.specs.Common.{waits_in_bundle, listed_at}
use Rattle.object_kinds.proofs.waiting.bundle_events.Given as goal

abbrev pub invariant-loop-event : goal.invariant-loop-event
invariant-loop-event l = record {
  long : length l.lists.items ≡ length l.p.bundles;
  so_far : (bundle : ℕ) → listed_at l.lists.items bundle ≡ filter (λ e. waits_in_bundle (plan_of l.p) bundle (kind_of (plan_of l.p) e)) (positions l.event);
}
