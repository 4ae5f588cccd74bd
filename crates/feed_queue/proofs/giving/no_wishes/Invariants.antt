use Rattle.std.proofs.Common.{◌≡◌, ℕ, [], length}
use Rattle.feed_queue.specs.Gifts.{wishes_at}
use Rattle.feed_queue.proofs.giving.no_wishes.Given as goal

abbrev pub invariant-loop : goal.invariant-loop
invariant-loop l = record {
  long : length l.lists.items ≡ l.counter;
  empty : (f : ℕ) → wishes_at l.lists.items f ≡ [];
}
