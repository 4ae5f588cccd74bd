use Rattle.std.proofs.Common.{◌≡◌, ◌-◌, take}
use Rattle.std.specs.List.{sum_by}
use Rattle.event_mapping.specs.Guard.{items_at}
use Rattle.event_mapping.proofs.guard.after_ports.Given as goal

abbrev pub invariant-loop-port : goal.invariant-loop-port
invariant-loop-port l = l.rest ≡ l.left - sum_by (items_at l.types l.owner) (take l.port-index l.ports)
