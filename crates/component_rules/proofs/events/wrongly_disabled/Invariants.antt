use Rattle.std.proofs.Common.{◌≡◌, drop}
use Rattle.plan_definitions.specs.Common.{first_of, unless, disabling_fits}
use Rattle.plan_definitions.specs.declared.spot.Spot.{Spot}
use Rattle.plan_definitions.specs.declared.spot.Spot.TheVariants as spot
use Rattle.component_rules.proofs.events.wrongly_disabled.Given as goal

abbrev pub invariant-loop-position : goal.invariant-loop-position
invariant-loop-position l = first_of {Y = Spot} (λ k e. unless (disabling_fits l.types l.component.ports e.kind e.disabled_in_modes) (spot.Event k)) 0 l.component.behavior.events
    ≡ first_of {Y = Spot} (λ k e. unless (disabling_fits l.types l.component.ports e.kind e.disabled_in_modes) (spot.Event k)) l.position (drop l.position l.component.behavior.events)
