use Rattle.std.proofs.Common.{◌≡◌, IfOk, ◌∙◌, ap, map, subst}
use Rattle.std.specs.Option.{unwrap_or}
use Rattle.plan_definitions.specs.Modes.{machine_at}
use Rattle.plan_services.proofs.machines.machine_plans.Goals as goal

pub returns : goal.returns
returns c = subst (λ plans. IfOk c.machines_at-plans.result (λ list. list.items ≡ plans))
    (ap (map (λ s. machine_at c.args.source.now.d.now c.args.source.now.f.now s.owner (unwrap_or s.port 0))) (c.as_slice.ensures.value ∙ c.args.source.now.listed.machines)) c.machines_at-plans.ensures
