use Rattle.std.proofs.Common.{◌≡◌, ◌++◌, map, take}
use Rattle.plan_definitions.specs.Started.{event_of}
use Rattle.plan_services.proofs.events.push_events.Given as goal

abbrev pub invariant-loop-event : goal.invariant-loop-event
invariant-loop-event l = l.list.items ≡ l.initial.list.items ++ map (event_of l.source.d.now l.source.f.now l.instance) (take l.event-index l.events)
