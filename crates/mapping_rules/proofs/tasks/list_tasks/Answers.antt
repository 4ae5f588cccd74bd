use Rattle.std.proofs.Common.{[], ◌∷◌}
use Rattle.mapping_rules.specs.Placing.{task_with}
use Rattle.plan_definitions.proofs.Turns.{from_added, from_all}
use Rattle.mapping_rules.proofs.tasks.list_tasks.Goals as goal

pub loop-number-preserved : goal.loop-number-preserved
loop-number-preserved c = from_added (λ t task. task_with c.args.groups.now.entries.items t task ∷ []) c.args.tasks.now _ _ _ c.loop-number.number _ c.loop-number-test.true c.index-tasks-number.is c.in_ok-push_task.ensures c.loop-number.invariant

pub returns : goal.returns
returns c = from_all (λ t task. task_with c.args.groups.now.entries.items t task ∷ []) c.args.tasks.now _ _ c.loop-number.number c.loop-number-test.false c.loop-number.invariant
