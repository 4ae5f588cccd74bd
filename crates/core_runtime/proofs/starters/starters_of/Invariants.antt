use Rattle.std.proofs.Common.{◌≡◌, length}
use Rattle.bus_semantics.specs.Plan.{plan_of}
use Rattle.core_runtime.proofs.Starting.{ListedBefore}
use Rattle.core_runtime.proofs.starters.starters_of.Given as goal

abbrev pub invariant-loop-event : goal.invariant-loop-event
invariant-loop-event l = record {
  count : length l.lists.items ≡ length (plan_of l.p).runnables;
  all : ListedBefore (plan_of l.p) l.event l.lists.items;
}
