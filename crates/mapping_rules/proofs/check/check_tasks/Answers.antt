use Rattle.plan_definitions.specs.MappingRules.{HaveOrder}
use Rattle.mapping_rules.proofs.Reached.{order_kept, circle_kept, never_reaches}
use Rattle.mapping_rules.proofs.Telling.{tasks_refused, never_ok}
use Rattle.mapping_rules.proofs.check.check_tasks.Goals as goal

pub returns-then-ordered : goal.returns-then-ordered
returns-then-ordered c =
    let order = order_kept c.args.servers.now.mapped.now.names.d.now c.args.servers.now.mapped.now.names.f.now c.in_ok-ordered.ordered c.if-ordered.true c.in_ok-ordered.ensures in
    record { refusal = never_reaches c.args.servers.now.mapped.now.names.d.now c.args.servers.now.mapped.now.names.f.now order; order = order }

pub returns : goal.returns
returns c = record {
  refusal = tasks_refused c.args.servers.now.mapped.now.names.d.now c.args.servers.now.mapped.now.names.f.now c.refuse_tasks.result
      (circle_kept c.args.servers.now.mapped.now.names.d.now c.args.servers.now.mapped.now.names.f.now c.in_ok-ordered.ordered c.if-ordered.false c.in_ok-ordered.ensures) c.refuse_tasks.ensures.says;
  order = never_ok (HaveOrder c.args.servers.now.mapped.now.names.d.now c.args.servers.now.mapped.now.names.f.now) c.refuse_tasks.result c.refuse_tasks.ensures.refused;
}
