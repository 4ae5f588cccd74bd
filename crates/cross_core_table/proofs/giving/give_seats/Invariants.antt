use Rattle.std.proofs.Common.{◌≡◌, ◌-◌}
use Rattle.std.specs.Vec.{vec_capacity}
use Rattle.cross_core_table.specs.Opened.{AreRooms, AreGiven}
use Rattle.cross_core_table.proofs.giving.give_seats.Given as goal

-- so many seats so far, and a room for each other core
abbrev pub invariant-loop-core : goal.invariant-loop-core
invariant-loop-core l = record {
  given : AreGiven l.top.table_id l.top.key l.core l.seats.items;
  rooms : AreRooms (l.cores - l.core) l.top.key.room l.rooms.items;
  space : vec_capacity l.seats ≡ vec_capacity l.initial.seats;
  kept : vec_capacity l.rooms ≡ vec_capacity l.initial.rooms;
}
