use Rattle.std.proofs.Common.{◌≡◌, [], ◌++◌, drop}
use Rattle.bus_semantics.specs.Common.{slice_get, option_map_or}
use Rattle.plan_definitions.specs.Common.{from, events_of_component}
use Rattle.plan_services.proofs.events.push_instances.Given as goal

abbrev pub invariant-loop-number : goal.invariant-loop-number
invariant-loop-number l = l.initial.list.items ++ from 0 (λ i x. option_map_or (events_of_component l.source.d.now l.source.f.now i) (slice_get l.source.d.now.components x.component) []) l.instances
    ≡ l.list.items ++ from l.number (λ i x. option_map_or (events_of_component l.source.d.now l.source.f.now i) (slice_get l.source.d.now.components x.component) []) (drop l.number l.instances)
