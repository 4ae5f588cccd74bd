use Rattle.std.proofs.Common.{◌≡◌, ℕ, drop, option_map}
use Rattle.plan_definitions.specs.Common.{incompatible_in, first_of}
use Rattle.join_search.specs.Passed.{HavePassed}
use Rattle.join_search.proofs.connectors.incompatible.Given as goal

abbrev pub invariant-loop-position : goal.invariant-loop-position
invariant-loop-position l = HavePassed l.d.types l.passed.keys
    × (first_of {Y = ℕ × ℕ} (λ n c. option_map (λ m. (n, m)) (incompatible_in l.d c)) 0 l.d.compositions
    ≡ first_of {Y = ℕ × ℕ} (λ n c. option_map (λ m. (n, m)) (incompatible_in l.d c)) l.position (drop l.position l.d.compositions))
