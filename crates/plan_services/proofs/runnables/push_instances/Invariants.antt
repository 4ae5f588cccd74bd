use Rattle.std.proofs.Common.{◌≡◌, [], ◌++◌, drop, map}
use Rattle.bus_semantics.specs.Common.{slice_get, option_map_or, runnable_of as seen}
use Rattle.plan_definitions.specs.Common.{from, runnables_of_component, AreCoded}
use Rattle.plan_services.proofs.runnables.push_instances.Given as goal

abbrev pub invariant-loop-number : goal.invariant-loop-number
invariant-loop-number l = record {
  listed : map seen l.initial.list.items ++ from 0 (λ i x. option_map_or (runnables_of_component l.source.d.now l.source.f.now i) (slice_get l.source.d.now.components x.component) []) l.instances
      ≡ map seen l.list.items ++ from l.number (λ i x. option_map_or (runnables_of_component l.source.d.now l.source.f.now i) (slice_get l.source.d.now.components x.component) []) (drop l.number l.instances);
  coded : AreCoded l.source.d.now l.list.items;
}
