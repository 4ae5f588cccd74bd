use Rattle.bus_semantics.specs.declared.plan.BusPlan.{BusPlan}
use Rattle.bus_semantics.specs.declared.script.Mapping.{Mapping}
use Rattle.mapping_rules.specs.declared.kept.KeptMapping.{KeptMapping}
use Rattle.plan_definitions.specs.MappingRefusals as rules
use Rattle.plan_definitions.specs.Common.{HaveOrder, IsOfLists, IsOfSize, IsThen}
use Rattle.event_mapping.proofs.Telling.{on_ok, then_first, then_later}
use Rattle.event_mapping.proofs.check.mapped_plan.Goals as goal

pub returns-in-Ok : goal.returns-in-Ok
returns-in-Ok c = record {
  refusal = then_later (rules.IsRefusal c.args.d.now c.args.f.now) (IsThen (IsOfSize c.args.d.now c.args.f.now) (IsOfLists c.args.d.now)) c.planned.result c.in-Ok.ensures.refusal c.planned.ensures.refusal;
  plan = c.planned.ensures.plan;
  mapping = c.planned.ensures.mapping;
  order = on_ok (HaveOrder c.args.d.now c.args.f.now) c.planned.result c.in-Ok.ensures.order;
}

pub returns-in-Err : goal.returns-in-Err
returns-in-Err c = record {
  refusal = then_first (rules.IsRefusal c.args.d.now c.args.f.now) (IsThen (IsOfSize c.args.d.now c.args.f.now) (IsOfLists c.args.d.now)) KeptMapping (BusPlan × Mapping) c.in-Err.refused c.in-Err.ensures.refusal;
  plan = tt;
  mapping = tt;
  order = tt;
}
