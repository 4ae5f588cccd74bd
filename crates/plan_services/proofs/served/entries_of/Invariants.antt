use Rattle.std.proofs.Common.{◌≡◌, take}
use Rattle.std.specs.List.{flat_map}
use Rattle.plan_services.specs.Served.{served_entry}
use Rattle.plan_services.proofs.served.entries_of.Given as goal

abbrev pub invariant-loop-event : goal.invariant-loop-event
invariant-loop-event l = l.list.items ≡ flat_map served_entry (take l.event-index l.events)
