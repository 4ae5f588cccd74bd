use Rattle.plan_definitions.specs.Callings.{outer_callings}
use Rattle.plan_definitions.proofs.Turns.{from_added, from_all}
use Rattle.plan_services.proofs.callings.push_outer_ports.Goals as goal

pub loop-number-preserved : goal.loop-number-preserved
loop-number-preserved c = from_added (outer_callings c.args.d.now) c.args.ports.now _ _ _ c.loop-number.number _ c.loop-number-test.true c.index-ports-number.is c.in_ok-push_outer_port.ensures c.loop-number.invariant

pub returns : goal.returns
returns c = from_all (outer_callings c.args.d.now) c.args.ports.now _ _ c.loop-number.number c.loop-number-test.false c.loop-number.invariant
