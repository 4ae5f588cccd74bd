use Rattle.std.proofs.Common.{Err}
use Rattle.bus_semantics.specs.declared.plan.BusPlan.{BusPlan}
use Rattle.plan_definitions.specs.declared.component_rule.ComponentRule.TheVariants as rule
use Rattle.plan_definitions.specs.Common.{of_rule, IsOfLists}
use Rattle.event_mapping.proofs.Telling.{as_told, still_tells}
use Rattle.event_mapping.proofs.check.coherent_plan.Goals as goal

pub returns-in-Err : goal.returns-in-Err
returns-in-Err c =
    let d = c.args.source.now.d.now in
    record { lists = still_tells Unit BusPlan (IsOfLists d) c.in-Err.broken (as_told {U = Unit} (of_rule rule.CoherentLists d) (Err c.in-Err.broken) c.in-Err.ensures); plan = tt }
