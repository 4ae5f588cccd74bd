use Rattle.std.proofs.Common.{◌≡◌, take}
use Rattle.std.specs.Prelude.{filter}
use Rattle.bus_semantics.specs.Plan.{plan_of, kind_of}
use Rattle.queue_objects.specs.Layout.{waits_for_receiver}
use Rattle.queue_objects.proofs.making.awaiting.Given as goal

abbrev pub invariant-loop-event : goal.invariant-loop-event
invariant-loop-event l = l.waiting.items ≡ filter (λ e. waits_for_receiver (plan_of l.p) l.group (kind_of (plan_of l.p) e)) (take l.event-index l.events)
