use Rattle.std.proofs.Common.{◌≡◌, ℕ, [], length}
use Rattle.object_kinds.specs.Gathered.{listed_at}
use Rattle.object_kinds.proofs.waiting.empty_lists.Given as goal

abbrev pub invariant-loop : goal.invariant-loop
invariant-loop l = record {
  long : length l.lists.items ≡ l.counter;
  empty : (group : ℕ) → listed_at l.lists.items group ≡ [];
}
