use Rattle.core_lanes.specs.Guiding.{AreRooms}
use Rattle.core_lanes.proofs.guided.rooms_of.Given as goal

abbrev pub invariant-loop-core : goal.invariant-loop-core
invariant-loop-core l = AreRooms l._core l.rooms.items
