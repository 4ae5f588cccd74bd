use Rattle.std.proofs.Common.{◌≡◌, map, take}
use Rattle.plan_definitions.specs.Invoked.{invoked_by}
use Rattle.plan_services.proofs.invoked.invoked_keys.Given as goal

abbrev pub invariant-loop-event : goal.invariant-loop-event
invariant-loop-event l = l.keys.items ≡ map (λ e. invoked_by e.kind) (take l.event-index l.events)
