use Rattle.bus_semantics.specs.declared.plan.BusPlan.{BusPlan}
use Rattle.bus_semantics.specs.declared.script.Mapping.{Mapping}
use Rattle.plan_definitions.specs.ComponentRefusals as components
use Rattle.plan_definitions.specs.MappingRefusals as rules
use Rattle.plan_definitions.specs.PlanRefusals.{IsOfLists, IsOfSize, IsThen}
use Rattle.event_mapping.proofs.Telling.{passed_on, refused_before}
use Rattle.event_mapping.proofs.check.map_events.Goals as goal

pub returns-in-Ok : goal.returns-in-Ok
returns-in-Ok c = record {
  refusal = passed_on (IsThen (rules.IsRefusal c.args.d.now c.args.f.now) (IsThen (IsOfSize c.args.d.now c.args.f.now) (IsOfLists c.args.d.now))) (components.refusal c.args.d.now) c.mapped_plan.result c.in-Ok.ensures c.mapped_plan.ensures.refusal;
  plan = c.mapped_plan.ensures.plan;
  mapping = c.mapped_plan.ensures.mapping;
  order = c.mapped_plan.ensures.order;
}

pub returns-in-Err : goal.returns-in-Err
returns-in-Err c = record {
  refusal = refused_before (IsThen (rules.IsRefusal c.args.d.now c.args.f.now) (IsThen (IsOfSize c.args.d.now c.args.f.now) (IsOfLists c.args.d.now))) (components.refusal c.args.d.now) Unit (BusPlan × Mapping) c.in-Err.broken c.in-Err.ensures;
  plan = tt;
  mapping = tt;
  order = tt;
}
