use Rattle.std.proofs.Common.{◌≡◌, ℕ, drop, option_map}
use Rattle.plan_definitions.specs.Common.{first_of, broken_in}
use Rattle.plan_definitions.specs.declared.spot.Spot.{Spot}
use Rattle.component_rules.proofs.check.first_broken.Given as goal

abbrev pub invariant-loop-position : goal.invariant-loop-position
invariant-loop-position l = first_of {Y = ℕ × Spot} (λ n c. option_map (λ place. (n, place)) (broken_in l.rule l.d.types c)) 0 l.d.components
    ≡ first_of {Y = ℕ × Spot} (λ n c. option_map (λ place. (n, place)) (broken_in l.rule l.d.types c)) l.position (drop l.position l.d.components)
