use Rattle.std.proofs.Common.{◌≡◌, drop}
use Rattle.plan_definitions.specs.Common.{first_of, unless, is_served}
use Rattle.plan_definitions.specs.declared.spot.Spot.{Spot}
use Rattle.plan_definitions.specs.declared.spot.Spot.TheVariants as spot
use Rattle.component_rules.proofs.invocations.unserved.Given as goal

abbrev pub invariant-loop-number : goal.invariant-loop-number
invariant-loop-number l = first_of {Y = Spot} (λ k port. unless (is_served l.types l.component.behavior.events k port) (spot.Port k)) 0 l.component.ports
    ≡ first_of {Y = Spot} (λ k port. unless (is_served l.types l.component.behavior.events k port) (spot.Port k)) l.number (drop l.number l.component.ports)
