use Rattle.std.proofs.Common.{◌≡◌, ℕ, length, take}
use Rattle.object_kinds.specs.Gathered.{listed_at}
use Rattle.server_objects.specs.Kept.{awaiting}
use Rattle.server_objects.proofs.making.listed_by_point.Given as goal

abbrev pub invariant-loop-at : goal.invariant-loop-at
invariant-loop-at l = record {
  long : length l.lists.items ≡ l.count;
  so_far : (i : ℕ) → listed_at l.lists.items i ≡ awaiting (take l.at l.returns) (take l.at l.awaited) i;
}
