use Rattle.std.proofs.Common.{◌≡◌, ℕ, [], length}
use Rattle.object_kinds.specs.Gathered.{listed_at}
use Rattle.server_objects.proofs.gathering.empty_lists.Given as goal

abbrev pub invariant-loop : goal.invariant-loop
invariant-loop l = record {
  long : length l.lists.items ≡ l.counter;
  empty : (i : ℕ) → listed_at l.lists.items i ≡ [];
}
