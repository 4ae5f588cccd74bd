use Rattle.std.proofs.Common.{◌≡◌, drop}
use Rattle.plan_definitions.specs.Common.{first_of, unless, access_fits}
use Rattle.plan_definitions.specs.declared.spot.Spot.{Spot}
use Rattle.plan_definitions.specs.declared.spot.Spot.TheVariants as spot
use Rattle.component_rules.proofs.accesses.misfit_among.Given as goal

abbrev pub invariant-loop-access : goal.invariant-loop-access
invariant-loop-access l = first_of {Y = Spot} (λ k a. unless (access_fits l.types l.ports a) (spot.Access l.runnable k)) 0 l.accesses
    ≡ first_of {Y = Spot} (λ k a. unless (access_fits l.types l.ports a) (spot.Access l.runnable k)) l.access (drop l.access l.accesses)
