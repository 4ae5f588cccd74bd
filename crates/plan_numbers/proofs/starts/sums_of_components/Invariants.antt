use Rattle.std.proofs.Common.{◌≡◌, map, take}
use Rattle.plan_numbers.specs.Starts.{capped_sums, elements_at}
use Rattle.plan_numbers.proofs.starts.sums_of_components.Given as goal

abbrev pub invariant-loop-component : goal.invariant-loop-component
invariant-loop-component l = l.lists.items ≡ map (λ c. capped_sums (elements_at l.types) 0 c.ports) (take l.component-index l.components)
