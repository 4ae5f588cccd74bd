use Rattle.std.proofs.Common.{◌≡◌, drop}
use Rattle.plan_definitions.specs.Common.{first_of, mixed_among}
use Rattle.plan_definitions.specs.declared.spot.Spot.{Spot}
use Rattle.component_rules.proofs.calls.Calls.mixed_access.Given as goal

abbrev pub invariant-loop-position : goal.invariant-loop-position
invariant-loop-position l = first_of {Y = Spot} (λ m r. mixed_among l.self.runnables.now m r.accesses) 0 l.self.runnables.now
    ≡ first_of {Y = Spot} (λ m r. mixed_among l.self.runnables.now m r.accesses) l.position (drop l.position l.self.runnables.now)
