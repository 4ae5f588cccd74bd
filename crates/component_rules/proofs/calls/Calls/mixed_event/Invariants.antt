use Rattle.std.proofs.Common.{◌≡◌, drop}
use Rattle.plan_definitions.specs.Common.{first_of, unless, event_keeps}
use Rattle.plan_definitions.specs.declared.spot.Spot.{Spot}
use Rattle.plan_definitions.specs.declared.spot.Spot.TheVariants as spot
use Rattle.component_rules.proofs.calls.Calls.mixed_event.Given as goal

abbrev pub invariant-loop-position : goal.invariant-loop-position
invariant-loop-position l = first_of {Y = Spot} (λ k e. unless (event_keeps l.self.runnables.now e.kind) (spot.Event k)) 0 l.events
    ≡ first_of {Y = Spot} (λ k e. unless (event_keeps l.self.runnables.now e.kind) (spot.Event k)) l.position (drop l.position l.events)
