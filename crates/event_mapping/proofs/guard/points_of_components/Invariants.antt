use Rattle.std.proofs.Common.{◌≡◌, map, take}
use Rattle.event_mapping.specs.Guard.{at_most, points_in}
use Rattle.event_mapping.proofs.guard.points_of_components.Given as goal

abbrev pub invariant-loop-component : goal.invariant-loop-component
invariant-loop-component l = l.counts.items ≡ map (at_most l.most points_in) (take l.component-index l.components)
