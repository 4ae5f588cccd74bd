use Rattle.std.proofs.Common.{◌≡◌, ◌≤◌, ◌+◌, ◌++◌, List, map, length, Some}
use Rattle.std.specs.Vec.{vec_capacity}
use Rattle.std.specs.Vec.Iter.{into_iter_items, into_iter_len}
use Rattle.cross_core_table.specs.declared.seats.CoreSeat.{CoreSeat}
use Rattle.live_lanes.specs.Workers.{AreCores}
use Rattle.live_lanes.proofs.Seated.{Seated}
use Rattle.live_lanes.proofs.seating.seat_all.Given as goal

abbrev pub invariant-loop-core : goal.invariant-loop-core
invariant-loop-core l = record {
  seated : Seated l.workers.items (into_iter_items l.core-iterator) (into_iter_items l.seats) (into_iter_items l.initial.core-iterator) (into_iter_items l.initial.seats);
  left : into_iter_len l.core-iterator ≡ length (into_iter_items l.core-iterator);
  seats_left : into_iter_len l.seats ≡ length (into_iter_items l.seats);
  parkers_left : into_iter_len l.parkers ≡ length (into_iter_items l.parkers);
  seats_match : length (into_iter_items l.seats) ≡ length (into_iter_items l.core-iterator);
  parkers_match : length (into_iter_items l.parkers) ≡ length (into_iter_items l.core-iterator);
  space : length l.workers.items + length (into_iter_items l.core-iterator) ≤ vec_capacity l.workers;
  same : vec_capacity l.workers ≡ vec_capacity l.initial.workers;
}
