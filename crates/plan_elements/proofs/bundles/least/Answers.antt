use Rattle.plan_elements.proofs.Lowest.{least_all, least_more}
use Rattle.plan_elements.proofs.bundles.least.Goals as goal

pub loop-label-preserved : goal.loop-label-preserved
loop-label-preserved c = least_more _ c.loop-label.low c.min-low.result _ c.args.labels.now c.loop-label.label-index c.loop-label-test.true c.min-low.ensures c.loop-label.invariant

pub returns : goal.returns
returns c = least_all _ c.loop-label.low c.args.labels.now c.loop-label.label-index c.loop-label-test.false c.loop-label.invariant
