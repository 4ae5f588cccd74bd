use Rattle.bus_semantics.specs.Plan.{plan_of}
use Rattle.task_generator.proofs.Publications.{fetches_more}
use Rattle.task_generator.proofs.around.put_fetches.Goals as goal

pub loop-fetch-preserved : goal.loop-fetch-preserved
loop-fetch-preserved c = fetches_more (plan_of c.args.p.now) c.args.elements.now c.args.fetches.now c.loop-fetch.fetch-index _ _ _ _ c.loop-fetch-test.true c.in_ok-put_fetch.ensures c.loop-fetch.invariant
