use Rattle.std.proofs.Common.{◌≡◌, ◌≤◌, ◌+◌, ◌++◌, length, map}
use Rattle.bus_semantics.specs.Common.{clamped_each, exprs, worth}
use Rattle.task_machine.specs.Store.{Store}
use Rattle.task_machine.specs.Words.{words_given}
use Rattle.task_generator.specs.Common.{numbered, given_over}
use Rattle.task_generator.proofs.generator.Generator.given_words.Given as goal

abbrev pub invariant-loop-limits : goal.invariant-loop-limits
invariant-loop-limits l = record {
  few : length l.words.items + length l.limits-iterator.a.rest.now ≤ length (numbered l.self.accesses.now.list.now l.fn.kind l.port l.item).ins;
  given : (m : Store) → words_given m.vars l.words.items ++ clamped_each l.limits-iterator.a.rest.now (map (worth m.vars) (exprs l.limits-iterator.b.rest.now))
      ≡ given_over (numbered l.self.accesses.now.list.now l.fn.kind l.port l.item) (exprs l.values) m;
}
