use Rattle.std.proofs.Common.{◌≡◌, drop, Some}
use Rattle.description_types.specs.declared.description.PrototypeType.TheVariants as of_type
use Rattle.plan_definitions.specs.Common.{End, first_of, in_ports}
use Rattle.plan_definitions.specs.Connectors.{ports_of}
use Rattle.join_search.proofs.items.Search.in_instances.Given as goal

abbrev pub invariant-loop-number : goal.invariant-loop-number
invariant-loop-number l = first_of {Y = End} (λ i x. in_ports l.rule l.self.d.now l.self.f.now (Some i) (ports_of l.self.d.now (of_type.Component x.component))) 0 l.self.f.now.instances
    ≡ first_of {Y = End} (λ i x. in_ports l.rule l.self.d.now l.self.f.now (Some i) (ports_of l.self.d.now (of_type.Component x.component))) l.number (drop l.number l.self.f.now.instances)
