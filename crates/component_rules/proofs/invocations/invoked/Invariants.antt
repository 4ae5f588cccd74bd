use Rattle.std.proofs.Common.{◌≡◌, take}
use Rattle.std.specs.List.{flat_map}
use Rattle.plan_definitions.specs.Invocations.{operation_of}
use Rattle.component_rules.proofs.invocations.invoked.Given as goal

abbrev pub invariant-loop-event : goal.invariant-loop-event
invariant-loop-event l = l.found.items ≡ flat_map (λ e. operation_of e.kind) (take l.event-index l.events)
