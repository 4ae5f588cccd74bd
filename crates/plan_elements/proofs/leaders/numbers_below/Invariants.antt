use Rattle.std.proofs.Common.{◌≡◌, ◌++◌, ◌-◌}
use Rattle.plan_definitions.specs.Lists.{positions}
use Rattle.plan_elements.proofs.leaders.numbers_below.Given as goal

-- those so far, and those that are left
abbrev pub invariant-loop-number : goal.invariant-loop-number
invariant-loop-number l = positions 0 l.count ≡ l.list.items ++ positions l.number (l.count - l.number)
