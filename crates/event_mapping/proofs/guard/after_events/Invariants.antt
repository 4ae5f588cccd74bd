use Rattle.std.proofs.Common.{◌≡◌, ◌-◌, take}
use Rattle.std.specs.List.{sum_by}
use Rattle.event_mapping.specs.Guard.{events_of_instance}
use Rattle.event_mapping.proofs.guard.after_events.Given as goal

abbrev pub invariant-loop-instance : goal.invariant-loop-instance
invariant-loop-instance l = l.rest ≡ l.left - sum_by (events_of_instance l.d) (take l.instance-index l.instances)
