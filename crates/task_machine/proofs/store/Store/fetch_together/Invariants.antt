use Rattle.std.proofs.Common.{◌≡◌, ◌≤◌, drop, length}
use Rattle.rte_value.specs.Values.{words_of}
use Rattle.task_machine.specs.Spots.{store_of, room_of}
use Rattle.task_machine.specs.Listed.{with_parts}
use Rattle.task_machine.proofs.store.Store.fetch_together.Given as goal

abbrev pub invariant-loop-part : goal.invariant-loop-part
invariant-loop-part l = record {
  left : with_parts (drop l.part-index l.parts) l.words (store_of l.self) ≡ with_parts l.parts (words_of l.value) (store_of l.fn.self);
  short : length l.words ≤ 16;
  room : room_of l.self ≡ room_of l.fn.self;
}
