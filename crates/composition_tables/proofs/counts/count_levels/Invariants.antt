use Rattle.std.proofs.Common.{◌≡◌, ℕ, length, slice_get, Some, Vec}
use Rattle.std.specs.Global.{Global}
use Rattle.composition_tables.specs.Counts.{AreCounts}
use Rattle.composition_tables.proofs.counts.count_levels.Given as goal

abbrev pub invariant-loop : goal.invariant-loop
invariant-loop l = record {
  as_many : length l.levels.items ≡ l.counter;
  last : AreCounts l.d l.counter l.counts.items;
  earlier : (n : ℕ) (counts : Vec ℕ Global) → slice_get l.levels.items n ≡ Some counts → AreCounts l.d n counts.items;
}
