use Rattle.std.proofs.Common.{◌≡◌, ◌≤◌, drop, length}
use Rattle.bus_semantics.specs.Common.{position_from, plan_of}
use Rattle.indexmap.specs.IndexMap.{get}
use Rattle.trace_reading.specs.Tables.{Key, goes_by, labels, same_key}
use Rattle.trace_reading.proofs.tables.table_of.Given as goal

abbrev pub invariant-loop-left : goal.invariant-loop-left
invariant-loop-left l = record {
  within : l.left ≤ length (labels l.kind (plan_of l.p));
  found : (q : Key) → get same_key l.table q ≡ position_from (goes_by q.0 q.1.now) l.left (drop l.left (labels l.kind (plan_of l.p)));
}

abbrev pub decreases-loop-left : goal.decreases-loop-left
decreases-loop-left l = l.left
