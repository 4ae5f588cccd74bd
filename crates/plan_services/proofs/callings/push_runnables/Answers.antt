use Rattle.plan_definitions.specs.Callings.{callings_in}
use Rattle.plan_definitions.proofs.Turns.{from_added, from_all}
use Rattle.plan_services.proofs.callings.push_runnables.Goals as goal

pub loop-number-preserved : goal.loop-number-preserved
loop-number-preserved c =
    from_added (callings_in c.args.instance) c.args.runnables.now _ _ _ c.loop-number.number _ c.loop-number-test.true c.index-runnables-number.is c.in_ok-push_runnable.ensures c.loop-number.invariant

pub returns : goal.returns
returns c = from_all (callings_in c.args.instance) c.args.runnables.now _ _ c.loop-number.number c.loop-number-test.false c.loop-number.invariant
