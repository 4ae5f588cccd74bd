use Rattle.std.proofs.Common.{◌≡◌, drop}
use Rattle.task_machine.specs.Spots.{store_of}
use Rattle.task_machine.specs.Listed.{any_written}
use Rattle.task_machine.proofs.store.Store.any_written.Given as goal

abbrev pub invariant-loop-slot : goal.invariant-loop-slot
invariant-loop-slot l = any_written (drop l.slot-index l.slots) (store_of l.self) ≡ any_written l.slots (store_of l.self)
