use Rattle.std.proofs.Common.{◌≡◌, ℕ, length, slice_get, Some, Vec}
use Rattle.std.specs.Global.{Global}
use Rattle.composition_tables.specs.Trees.{AreStarts}
use Rattle.composition_tables.proofs.starts.start_levels.Given as goal

abbrev pub invariant-loop-counts : goal.invariant-loop-counts
invariant-loop-counts l = record {
  as_many : length l.table.items ≡ l.counts-index;
  each : (n : ℕ) (starts : Vec (Vec ℕ Global) Global) → slice_get l.table.items n ≡ Some starts → AreStarts l.d n starts.items;
}
