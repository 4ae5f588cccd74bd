use Rattle.std.proofs.Common.{◌≡◌, replicate}
use Rattle.std.specs.Vec.{vec_len, vec_capacity}
use Rattle.task_machine.proofs.store.refill.Given as goal

abbrev pub invariant-loop : goal.invariant-loop
invariant-loop g l = record {
  items : l.items.items ≡ replicate l.counter l.item;
  counted : vec_len l.items ≡ l.counter;
  room : vec_capacity l.items ≡ vec_capacity l.fn.items;
}
