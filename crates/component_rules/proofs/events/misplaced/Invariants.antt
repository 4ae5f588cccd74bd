use Rattle.std.proofs.Common.{◌≡◌, drop}
use Rattle.plan_definitions.specs.Firsts.{first_of, unless}
use Rattle.plan_definitions.specs.declared.spot.Spot.{Spot}
use Rattle.plan_definitions.specs.declared.spot.Spot.TheVariants as spot
use Rattle.plan_definitions.specs.Events.{kind_fits}
use Rattle.component_rules.proofs.events.misplaced.Given as goal

abbrev pub invariant-loop-position : goal.invariant-loop-position
invariant-loop-position l = first_of {Y = Spot} (λ k e. unless (kind_fits l.types l.component.ports e.kind) (spot.Event k)) 0 l.component.behavior.events
    ≡ first_of {Y = Spot} (λ k e. unless (kind_fits l.types l.component.ports e.kind) (spot.Event k)) l.position (drop l.position l.component.behavior.events)
