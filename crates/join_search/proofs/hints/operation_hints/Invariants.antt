use Rattle.std.proofs.Common.{◌≤◌}
use Rattle.indexmap.specs.IndexMap.{index_map_len}
use Rattle.join_search.proofs.hints.operation_hints.Given as goal

abbrev pub invariant-loop-position : goal.invariant-loop-position
invariant-loop-position l = index_map_len l.hints ≤ l.position
