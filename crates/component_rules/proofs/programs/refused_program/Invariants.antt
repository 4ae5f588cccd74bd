use Rattle.std.proofs.Common.{◌≡◌, ℕ, List, drop, option_map}
use Rattle.plan_definitions.specs.Common.{first_of, refused_in}
use Rattle.component_rules.proofs.programs.refused_program.Given as goal

abbrev pub invariant-loop-position : goal.invariant-loop-position
invariant-loop-position l = first_of {Y = ℕ × (ℕ × List ℕ)} (λ n c. option_map (λ x. (n, x)) (refused_in l.wanted l.d.types c)) 0 l.d.components
    ≡ first_of {Y = ℕ × (ℕ × List ℕ)} (λ n c. option_map (λ x. (n, x)) (refused_in l.wanted l.d.types c)) l.position (drop l.position l.d.components)
