use Rattle.std.proofs.Common.{◌≤◌}
use Rattle.std.specs.Vec.{vec_capacity}
use Rattle.cross_core_table.specs.Opened.{AreRooms}
use Rattle.cross_core_table.proofs.giving.take_rooms.Given as goal

-- so many rooms so far
abbrev pub invariant-loop-core : goal.invariant-loop-core
invariant-loop-core l = record { rooms : AreRooms l._core l.room l.rooms.items; space : l.cores ≤ vec_capacity l.rooms }
