use Rattle.std.proofs.Common.{◌≡◌, drop}
use Rattle.plan_definitions.specs.Common.{first_of, incoherent_among}
use Rattle.plan_definitions.specs.declared.spot.Spot.{Spot}
use Rattle.component_rules.proofs.coherent.incoherent.Given as goal

abbrev pub invariant-loop-number : goal.invariant-loop-number
invariant-loop-number l = first_of {Y = Spot} (λ m r. incoherent_among l.types l.component m r) 0 l.component.behavior.runnables
    ≡ first_of {Y = Spot} (λ m r. incoherent_among l.types l.component m r) l.number (drop l.number l.component.behavior.runnables)
