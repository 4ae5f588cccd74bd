use Rattle.std.proofs.Common.{◌≡◌, ◌-◌, take}
use Rattle.std.specs.List.{sum_by}
use Rattle.event_mapping.specs.Guard.{outer_points}
use Rattle.event_mapping.proofs.guard.after_outer.Given as goal

abbrev pub invariant-loop-port : goal.invariant-loop-port
invariant-loop-port l = l.rest ≡ l.left - sum_by (outer_points l.d) (take l.port-index l.ports)
