use Rattle.std.proofs.Common.{◌≡◌, [], ◌++◌, drop}
use Rattle.bus_semantics.specs.Common.{slice_get, option_map_or}
use Rattle.plan_definitions.specs.Common.{from, callings_of_component}
use Rattle.plan_services.proofs.callings.push_instances.Given as goal

abbrev pub invariant-loop-number : goal.invariant-loop-number
invariant-loop-number l = l.initial.list.items ++ from 0 (λ i x. option_map_or (callings_of_component i) (slice_get l.d.components x.component) []) l.instances
    ≡ l.list.items ++ from l.number (λ i x. option_map_or (callings_of_component i) (slice_get l.d.components x.component) []) (drop l.number l.instances)
