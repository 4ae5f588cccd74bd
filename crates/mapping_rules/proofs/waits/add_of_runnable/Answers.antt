use Rattle.std.proofs.Common.{◌∙◌, ◌||◌, ap, refl}
use Rattle.indexmap.specs.IndexSet.{contains}
use Rattle.plan_definitions.specs.Common.{same_pair, waits_by}
use Rattle.mapping_rules.specs.Waiting.{pairs}
use Rattle.mapping_rules.proofs.Adding.{each_more}
use Rattle.mapping_rules.proofs.waits.add_of_runnable.Goals as goal

pub loop-access-preserved : goal.loop-access-preserved
loop-access-preserved c = λ e. each_more (λ a. pairs e c.args.tasks.now (waits_by c.args.servers.now.mapped.now.names.d.now c.args.servers.now.mapped.now.names.f.now c.args.instance a))
    c.args.accesses.now c.loop-access.access-index _ _ (contains same_pair c.loop-access.edges e) (contains same_pair c.add_pairs.new.edges e) _ c.loop-access-test.true
    (c.in_ok-add_pairs.ensures e ∙ ap (λ w. contains same_pair c.loop-access.edges e || pairs e c.args.tasks.now w) c.waits_by.ensures) refl (c.loop-access.invariant e)
