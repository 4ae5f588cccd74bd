use Rattle.std.proofs.Common.{◌≡◌, map, take}
use Rattle.plan_numbers.specs.ComSpecs.{items_of_ports}
use Rattle.plan_numbers.proofs.com_specs.items_of_components.Given as goal

abbrev pub invariant-loop-component : goal.invariant-loop-component
invariant-loop-component l = l.tables.items ≡ map (λ c. items_of_ports c.ports) (take l.component-index l.components)
