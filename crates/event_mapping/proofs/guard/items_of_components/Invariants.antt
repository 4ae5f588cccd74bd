use Rattle.std.proofs.Common.{◌≡◌, map, take}
use Rattle.event_mapping.specs.Guard.{at_most, items_in}
use Rattle.event_mapping.proofs.guard.items_of_components.Given as goal

abbrev pub invariant-loop-component : goal.invariant-loop-component
invariant-loop-component l = l.counts.items ≡ map (at_most l.most (items_in l.types)) (take l.component-index l.components)
