use Rattle.std.proofs.Common.{◌≡◌, ◌≤◌, ℕ, length, map, take, Some}
use Rattle.std.specs.Prelude.{sum_by}
use Rattle.bus_semantics.specs.Common.{slice_get, plan_of}
use Rattle.object_kinds.specs.Common.{listed_at, events_of, waits_for_data}
use Rattle.data_objects.specs.Kept as groups
use Rattle.data_objects.specs.Kept.{GroupState}
use Rattle.bundle_objects.proofs.making.make_groups.Given as goal

abbrev pub invariant-loop-place : goal.invariant-loop-place
invariant-loop-place l = record {
  long : length l.lists.items ≡ length l.numbers;
  left : (at group : ℕ) → l.place ≤ at → slice_get l.numbers at ≡ Some group → listed_at l.lists.items at ≡ events_of (plan_of l.p) (waits_for_data (plan_of l.p) group);
  made : map (λ (g : GroupState). g.kept) l.groups.items ≡ map (groups.opening (plan_of l.p)) (take l.place l.numbers);
  room : sum_by (λ (g : GroupState). length g.kept.unqueued.due) l.groups.items ≤ length l.woken.items;
}
