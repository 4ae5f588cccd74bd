use Rattle.mapping_rules.specs.Listed.{tasks_at}
use Rattle.plan_definitions.proofs.Turns.{from_added, from_all}
use Rattle.mapping_rules.proofs.mapped.Mapped.list_tasks.Goals as goal

pub loop-number-preserved : goal.loop-number-preserved
loop-number-preserved c = from_added (tasks_at c.args.self.now.names.d.now c.args.self.now.names.f.now c.args.instance) c.args.events.now _ _ _ c.loop-number.number _ c.loop-number-test.true c.index-events-number.is c.in_ok-push_event.ensures c.loop-number.invariant

pub returns : goal.returns
returns c = from_all (tasks_at c.args.self.now.names.d.now c.args.self.now.names.f.now c.args.instance) c.args.events.now _ _ c.loop-number.number c.loop-number-test.false c.loop-number.invariant
