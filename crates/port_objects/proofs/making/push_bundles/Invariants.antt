use Rattle.std.proofs.Common.{◌≡◌, ◌≤◌, ℕ, length, map}
use Rattle.bus_semantics.specs.Plan.{plan_of, positions}
use Rattle.object_kinds.specs.Common.{events_of, waits_in_bundle, listed_at}
use Rattle.port_objects.specs.Opening.{opening_of_bundle, AreFirst}
use Rattle.port_objects.proofs.making.push_bundles.Given as goal

abbrev pub invariant-loop-bundle : goal.invariant-loop-bundle
invariant-loop-bundle l = record {
  long : length l.waiting.items ≡ length l.p.bundles;
  left : (bundle : ℕ) → l.bundle ≤ bundle → listed_at l.waiting.items bundle ≡ events_of (plan_of l.p) (waits_in_bundle (plan_of l.p) bundle);
  first : AreFirst (plan_of l.p) (map (opening_of_bundle (plan_of l.p)) (positions l.bundle)) l.objects.items;
}
