use Rattle.std.proofs.Common.{◌≡◌, IfOk, [], ◌∷◌, ◌∙◌, ap, subst}
use Rattle.plan_definitions.specs.Lists.{from}
use Rattle.mapping_rules.specs.Placing.{task_with}
use Rattle.mapping_rules.proofs.Placed.{tasks_are}
use Rattle.mapping_rules.proofs.tasks.tasks_of.Goals as goal

pub returns : goal.returns
returns c = subst (λ tasks. IfOk c.list_tasks-tasks.result (λ list. list.items ≡ tasks))
    (ap (from 0 (λ t task. task_with c.in_ok-groups.groups.entries.items t task ∷ [])) c.items.ensures
    ∙ tasks_are c.args.mapped.now.names.d.now c.args.mapped.now.names.f.now c.in_ok-groups.groups.entries.items c.in_ok-groups.ensures 0 c.args.mapped.now.names.d.now.mapping.tasks)
    c.list_tasks-tasks.ensures
