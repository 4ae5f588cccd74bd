use Rattle.std.proofs.Common.{◌≡◌, ◌++◌, map, take}
use Rattle.mapping_rules.proofs.mapped.push_tasks.Given as goal

abbrev pub invariant-loop-task : goal.invariant-loop-task
invariant-loop-task l = l.list.items ≡ l.initial.list.items ++ map (λ t. (l.runnable, t)) (take l.task-index l.tasks)
