use Rattle.std.proofs.Common.{◌≡◌, IfOk}
use Rattle.plan_definitions.specs.Common.{Tells, plan_of, seen, IsOfLists, IsOfSize, IsThen}
use Rattle.event_mapping.proofs.check.sized_plan.Goals as goal
use Rattle.mapping_rules.proofs.Telling.{moved}

pub returns : goal.returns
returns c = record {
  refusal = moved (λ d f. Tells (IsThen (IsOfSize d f) (IsOfLists d)) c.plan_over-plan.result) _ _ _ _ c.in_ok-source.ensures.0 c.in_ok-source.ensures.1 c.plan_over-plan.ensures.refusal;
  plan = moved (λ d f. IfOk c.plan_over-plan.result (λ plan. seen plan ≡ plan_of d f)) _ _ _ _ c.in_ok-source.ensures.0 c.in_ok-source.ensures.1 c.plan_over-plan.ensures.plan;
}
