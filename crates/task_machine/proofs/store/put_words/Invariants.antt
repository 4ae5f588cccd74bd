use Rattle.std.proofs.Common.{◌≡◌}
use Rattle.bus_semantics.specs.Common.{vec_capacity, stored}
use Rattle.task_machine.proofs.store.put_words.Given as goal

abbrev pub invariant-loop-number : goal.invariant-loop-number
invariant-loop-number l = record {
  left : stored l.number-iterator.a.rest.now l.number-iterator.b.rest.now l.vars.items ≡ stored l.numbers l.words l.initial.vars.items;
  room : vec_capacity l.vars ≡ vec_capacity l.initial.vars;
}
