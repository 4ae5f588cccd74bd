use Rattle.mapping_rules.specs.Listed.{invoked_at}
use Rattle.plan_definitions.proofs.Turns.{from_added, from_all}
use Rattle.mapping_rules.proofs.servers.list_invoked.Goals as goal

pub loop-number-preserved : goal.loop-number-preserved
loop-number-preserved c = from_added (λ m e. invoked_at m e.kind) c.args.events.now _ _ _ c.loop-number.number _ c.loop-number-test.true c.index-events-number.is c.in_ok-push_invoked.ensures c.loop-number.invariant

pub returns : goal.returns
returns c = from_all (λ m e. invoked_at m e.kind) c.args.events.now _ _ c.loop-number.number c.loop-number-test.false c.loop-number.invariant
