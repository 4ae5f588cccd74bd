use Rattle.std.proofs.Common.{◌≡◌, drop}
use Rattle.plan_definitions.specs.Common.{first_of, misfit_among}
use Rattle.plan_definitions.specs.declared.spot.Spot.{Spot}
use Rattle.component_rules.proofs.accesses.misfit.Given as goal

abbrev pub invariant-loop-position : goal.invariant-loop-position
invariant-loop-position l = first_of {Y = Spot} (λ m r. misfit_among l.types l.component.ports m r.accesses) 0 l.component.behavior.runnables
    ≡ first_of {Y = Spot} (λ m r. misfit_among l.types l.component.ports m r.accesses) l.position (drop l.position l.component.behavior.runnables)
