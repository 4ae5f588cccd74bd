use Rattle.std.proofs.Common.{◌≡◌, map, take}
use Rattle.queued_ports.specs.Laid.{empty_lane}
use Rattle.queued_ports.proofs.lanes.empty_lanes.Given as goal

abbrev pub invariant-loop-length : goal.invariant-loop-length
invariant-loop-length l = l.lanes.items ≡ map empty_lane (take l.length-index l.lengths)
