use Rattle.std.proofs.Common.{◌≡◌, take}
use Rattle.plan_definitions.specs.Invocations.{started}
use Rattle.component_rules.proofs.invocations.started.Given as goal

abbrev pub invariant-loop-event : goal.invariant-loop-event
invariant-loop-event l = l.found.items ≡ started (take l.event-index l.events)
