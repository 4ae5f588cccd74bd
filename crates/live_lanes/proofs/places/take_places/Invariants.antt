use Rattle.std.proofs.Common.{◌≡◌, length}
use Rattle.live_lanes.proofs.places.take_places.Given as goal

abbrev pub invariant-loop-core : goal.invariant-loop-core
invariant-loop-core l = length l.parkers.items ≡ l.core
