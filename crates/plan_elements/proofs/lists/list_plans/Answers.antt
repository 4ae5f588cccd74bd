use Rattle.plan_elements.proofs.Listing.{few_instances}
use Rattle.plan_elements.proofs.lists.list_plans.Goals as goal

pub push_runnable-requires-clause-instance : goal.push_runnable-requires-clause-instance
push_runnable-requires-clause-instance c = few_instances c.args.source.now.d.now c.args.source.now.f.now c.args.runnables.now c.requires c.args.source.now.few c.loop-number.number (0, 0) c.loop-number-test.true
