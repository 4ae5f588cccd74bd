use Rattle.std.proofs.Common.{◌≡◌, ℕ, ◌≤◌, drop, length}
use Rattle.indexmap.specs.IndexMap.{get}
use Rattle.bus_semantics.specs.Common.{AccessKind, kind_number, is_to, found}
use Rattle.task_generator.specs.Found.{same_key, access_in}
use Rattle.task_generator.proofs.accesses.found_of.Given as goal

abbrev pub invariant-loop-left : goal.invariant-loop-left
invariant-loop-left l = record {
  accesses : l.left ≤ length l.accesses;
  numbers : l.left ≤ length l.own;
  found : (k : AccessKind) (port item : ℕ) → access_in (get same_key l.found (kind_number k, port, item)) ≡ found (is_to k port item) (drop l.left l.accesses) (drop l.left l.own);
}

abbrev pub decreases-loop-left : goal.decreases-loop-left
decreases-loop-left l = l.left
