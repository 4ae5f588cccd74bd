use Rattle.std.proofs.Common.{◌≡◌, drop}
use Rattle.plan_definitions.specs.Common.{first_of, unless, is_alone}
use Rattle.plan_definitions.specs.declared.spot.Spot.{Spot}
use Rattle.plan_definitions.specs.declared.spot.Spot.TheVariants as spot
use Rattle.component_rules.proofs.invocations.shared.Given as goal

abbrev pub invariant-loop-position : goal.invariant-loop-position
invariant-loop-position l = first_of {Y = Spot} (λ k e. unless (is_alone l.component.behavior.events e) (spot.Event k)) 0 l.component.behavior.events
    ≡ first_of {Y = Spot} (λ k e. unless (is_alone l.component.behavior.events e) (spot.Event k)) l.position (drop l.position l.component.behavior.events)
