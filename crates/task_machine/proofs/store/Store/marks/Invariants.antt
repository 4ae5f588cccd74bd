use Rattle.std.proofs.Common.{◌≡◌, ◌<◌, ◌≤◌, drop, take, length}
use Rattle.bus_semantics.specs.Lists.{mask_of}
use Rattle.task_machine.specs.Spots.{store_of}
use Rattle.task_machine.specs.Listed.{has_written}
use Rattle.task_machine.proofs.store.Store.marks.Given as goal

abbrev pub invariant-loop-left : goal.invariant-loop-left
invariant-loop-left l = record {
  within : l.left ≤ length l.slots;
  few : l.left ≤ 16;
  small : l.marks < 65536;
  so_far : l.marks ≡ mask_of (has_written (store_of l.self)) (drop l.left (take 16 l.slots));
}

abbrev pub decreases-loop-left : goal.decreases-loop-left
decreases-loop-left l = l.left
