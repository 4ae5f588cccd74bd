use Rattle.std.proofs.Common.{◌≡◌, ◌≤◌, ◌+◌, ◌++◌, drop}
use Rattle.task_generator.specs.Common.{numbers_from, numbers, count_of}
use Rattle.task_generator.proofs.numbers.numbers_of.Given as goal

abbrev pub invariant-loop-access : goal.invariant-loop-access
invariant-loop-access l = record {
  so_far : l.found.items ++ numbers_from (count_of l.counts) (drop l.access-index l.accesses) ≡ numbers l.accesses;
  all : l.counts.all ≤ l.access-index + 1;
  fetched : l.counts.fetched ≤ l.access-index + 1;
  published : l.counts.published ≤ l.access-index + 1;
}
