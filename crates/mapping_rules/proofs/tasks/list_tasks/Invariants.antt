use Rattle.std.proofs.Common.{◌≡◌, [], ◌∷◌, ◌++◌, drop}
use Rattle.plan_definitions.specs.Lists.{from}
use Rattle.mapping_rules.specs.Placing.{task_with}
use Rattle.mapping_rules.proofs.tasks.list_tasks.Given as goal

abbrev pub invariant-loop-number : goal.invariant-loop-number
invariant-loop-number l = from 0 (λ t task. task_with l.groups.entries.items t task ∷ []) l.tasks ≡ l.list.items ++ from l.number (λ t task. task_with l.groups.entries.items t task ∷ []) (drop l.number l.tasks)
