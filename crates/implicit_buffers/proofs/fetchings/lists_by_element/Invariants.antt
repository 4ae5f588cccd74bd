use Rattle.std.proofs.Common.{◌≡◌, ◌≤◌, ℕ, drop, length, nat_eq}
use Rattle.indexmap.specs.IndexMap.{get}
use Rattle.bus_semantics.specs.Common.{plan_of, list_with}
use Rattle.implicit_buffers.proofs.fetchings.lists_by_element.Given as goal

abbrev pub invariant-loop-left : goal.invariant-loop-left
invariant-loop-left l = record {
  within : l.left ≤ length l.numbers;
  found : (x : ℕ) → get nat_eq l.lists x ≡ list_with (plan_of l.p) (drop l.left l.numbers) x;
}

abbrev pub decreases-loop-left : goal.decreases-loop-left
decreases-loop-left l = l.left
