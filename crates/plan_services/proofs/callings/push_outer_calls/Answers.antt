use Rattle.plan_definitions.specs.Callings.{outer_calling}
use Rattle.plan_definitions.proofs.Turns.{one_more}
use Rattle.plan_services.proofs.callings.push_outer_calls.Goals as goal

pub loop-item-preserved : goal.loop-item-preserved
loop-item-preserved c = one_more (outer_calling c.args.port) _ _ _ c.loop-item.item c.args.count c.loop-item-test.true c.in_ok-push_outer_call.ensures c.loop-item.invariant
