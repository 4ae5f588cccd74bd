use Rattle.std.proofs.Common.{◌≡◌, ◌++◌, drop}
use Rattle.plan_definitions.specs.Common.{from, named_areas, areas_at}
use Rattle.event_mapping.proofs.areas.areas_of_plan.Given as goal

abbrev pub invariant-loop-number : goal.invariant-loop-number
invariant-loop-number l = from 0 (λ i x. named_areas i (areas_at l.d x)) l.f.instances
    ≡ l.list.items ++ from l.number (λ i x. named_areas i (areas_at l.d x)) (drop l.number l.f.instances)
