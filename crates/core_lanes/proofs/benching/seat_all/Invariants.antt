use Rattle.std.proofs.Common.{◌≡◌, ◌≤◌, ◌+◌, ◌++◌, length}
use Rattle.std.specs.Vec.{vec_capacity}
use Rattle.std.specs.Vec.Iter.{into_iter_items, into_iter_len}
use Rattle.core_lanes.specs.Guiding.{AreFitting, AreRooms}
use Rattle.core_lanes.specs.Lanes.{lanes_of}
use Rattle.core_lanes.proofs.benching.seat_all.Given as goal

abbrev pub invariant-loop-core : goal.invariant-loop-core
invariant-loop-core l = record {
  whole : l.lanes.items ++ lanes_of (into_iter_items l.core-iterator) (into_iter_items l.seats) ≡ lanes_of (into_iter_items l.initial.core-iterator) (into_iter_items l.initial.seats);
  fit : AreFitting (into_iter_items l.core-iterator) (into_iter_items l.awake);
  rooms : AreRooms (length (into_iter_items l.core-iterator)) (into_iter_items l.rooms);
  awake_left : into_iter_len l.awake ≡ length (into_iter_items l.awake);
  rooms_left : into_iter_len l.rooms ≡ length (into_iter_items l.rooms);
  left : into_iter_len l.core-iterator ≡ length (into_iter_items l.core-iterator);
  seats_left : into_iter_len l.seats ≡ length (into_iter_items l.seats);
  space : length l.lanes.items + length (into_iter_items l.core-iterator) ≤ vec_capacity l.lanes;
}
