use Rattle.std.proofs.Common.{◌∙◌, get_or, refl}
use Rattle.indexmap.specs.IndexSet.{contains}
use Rattle.plan_definitions.specs.Keys.{same_pair}
use Rattle.mapping_rules.proofs.Adding.{each_more, one_key}
use Rattle.mapping_rules.proofs.waits.add_waits.Goals as goal

pub loop-task-preserved : goal.loop-task-preserved
loop-task-preserved c = λ e. each_more (λ u. same_pair (c.args.from, u) e) c.args.waits.now c.loop-task.task-index 0 (get_or c.args.waits.now c.loop-task.task-index 0)
    (contains same_pair c.loop-task.edges e) (contains same_pair c.insert.new.self e) _ c.loop-task-test.true
    (c.in_ok-insert.ensures.updates.0 e ∙ one_key (same_pair (c.args.from, get_or c.args.waits.now c.loop-task.task-index 0) e) (contains same_pair c.loop-task.edges e)) refl (c.loop-task.invariant e)
