use Rattle.std.proofs.Common.{◌≡◌, ◌≤◌, ◌+◌, ◌++◌, drop, length}
use Rattle.plan_definitions.specs.Common.{head_at, heads, from}
use Rattle.plan_elements.specs.Lists.{ranks}
use Rattle.plan_elements.proofs.groups.ranks_of.Given as goal

abbrev pub invariant-loop-number : goal.invariant-loop-number
invariant-loop-number l = record {
  few : l.count ≤ l.number;
  ranked : ranks 0 0 l.leaders ≡ l.numbers.items ++ ranks l.number l.count (drop l.number l.leaders);
  counted : length (heads l.leaders) ≡ l.count + length (from l.number head_at (drop l.number l.leaders));
}
