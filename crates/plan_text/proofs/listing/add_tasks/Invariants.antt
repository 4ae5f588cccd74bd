use Rattle.std.proofs.Common.{◌≡◌, ◌++◌, drop}
use Rattle.plan_definitions.specs.Lists.{from}
use Rattle.plan_text.specs.Texts.{task_at}
use Rattle.plan_text.proofs.listing.add_tasks.Given as goal

-- those so far, and those that are left
abbrev pub invariant-loop-number : goal.invariant-loop-number
invariant-loop-number l = l.initial.text.items ++ from 0 (task_at l.d) l.d.mapping.tasks ≡ l.text.items ++ from l.number (task_at l.d) (drop l.number l.d.mapping.tasks)
