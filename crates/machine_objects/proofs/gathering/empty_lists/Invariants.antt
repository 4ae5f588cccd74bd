use Rattle.std.proofs.Common.{◌≡◌, ℕ, [], length}
use Rattle.object_kinds.specs.Gathered.{listed_at}
use Rattle.machine_objects.proofs.gathering.empty_lists.Given as goal

abbrev pub invariant-loop : goal.invariant-loop
invariant-loop l = record {
  long : length l.lists.items ≡ l.counter;
  empty : (machine : ℕ) → listed_at l.lists.items machine ≡ [];
}
