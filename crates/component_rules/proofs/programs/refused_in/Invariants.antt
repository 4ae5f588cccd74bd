use Rattle.std.proofs.Common.{◌≡◌, ℕ, List, drop, option_map, option_and_then}
use Rattle.plan_definitions.specs.Common.{first_of, path_of, program_refusal}
use Rattle.component_rules.proofs.programs.refused_in.Given as goal

abbrev pub invariant-loop-position : goal.invariant-loop-position
invariant-loop-position l = first_of {Y = ℕ × List ℕ} (λ m r. option_map (λ path. (m, path)) (option_and_then (path_of l.wanted) (program_refusal l.types l.component r))) 0 l.component.behavior.runnables
    ≡ first_of {Y = ℕ × List ℕ} (λ m r. option_map (λ path. (m, path)) (option_and_then (path_of l.wanted) (program_refusal l.types l.component r))) l.position (drop l.position l.component.behavior.runnables)
