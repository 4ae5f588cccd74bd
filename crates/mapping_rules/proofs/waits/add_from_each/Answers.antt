use Rattle.std.proofs.Common.{get_or, refl}
use Rattle.indexmap.specs.IndexSet.{contains}
use Rattle.plan_definitions.specs.Keys.{same_pair}
use Rattle.mapping_rules.specs.Waiting.{leads}
use Rattle.mapping_rules.proofs.Adding.{each_more}
use Rattle.mapping_rules.proofs.waits.add_from_each.Goals as goal

pub loop-task-preserved : goal.loop-task-preserved
loop-task-preserved c = λ e. each_more (λ t. leads e t c.args.waits.now) c.args.tasks.now c.loop-task.task-index 0 (get_or c.args.tasks.now c.loop-task.task-index 0)
    (contains same_pair c.loop-task.edges e) (contains same_pair c.add_waits.new.edges e) _ c.loop-task-test.true (c.in_ok-add_waits.ensures e) refl (c.loop-task.invariant e)
