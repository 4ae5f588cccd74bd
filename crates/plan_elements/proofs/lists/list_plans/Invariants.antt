use Rattle.std.proofs.Common.{◌≡◌, ◌++◌, drop}
use Rattle.plan_definitions.specs.Common.{lists_at, from}
use Rattle.plan_elements.proofs.lists.list_plans.Given as goal

abbrev pub invariant-loop-number : goal.invariant-loop-number
invariant-loop-number l = from 0 (lists_at l.source.d.now l.source.f.now) l.runnables ≡ l.list.items ++ from l.number (lists_at l.source.d.now l.source.f.now) (drop l.number l.runnables)
