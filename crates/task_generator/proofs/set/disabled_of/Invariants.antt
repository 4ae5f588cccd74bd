use Rattle.std.proofs.Common.{◌≡◌, map, take}
use Rattle.std.specs.Prelude.{is_some}
use Rattle.bus_semantics.specs.declared.plan.EventPlan.{EventPlan}
use Rattle.task_generator.proofs.set.disabled_of.Given as goal

abbrev pub invariant-loop-event : goal.invariant-loop-event
invariant-loop-event l = l.disabled.items ≡ map (λ (v : EventPlan). is_some v.disabled) (take l.event-index l.events)
