use Rattle.std.proofs.Common.{◌≡◌, ◌≤◌, ◌+◌, ◌++◌, map, length}
use Rattle.bus_semantics.specs.Common.{flat_map, vec_capacity, into_iter_items}
use Rattle.std.specs.Vec.Iter.{into_iter_len}
use Rattle.live_lanes.specs.Lanes.{core_in, seats_in}
use Rattle.live_lanes.specs.Workers.{lane_in}
use Rattle.live_lanes.proofs.seating.part_all.Given as goal

abbrev pub invariant-loop-worker : goal.invariant-loop-worker
invariant-loop-worker l = record {
  all : l.yielded ++ into_iter_items l.worker-iterator ≡ into_iter_items l.initial.worker-iterator;
  left : into_iter_len l.worker-iterator ≡ length (into_iter_items l.worker-iterator);
  cores : l.cores.items ≡ map core_in (flat_map lane_in l.yielded);
  seats : l.seats.items ≡ seats_in (flat_map lane_in l.yielded);
  cores_space : vec_capacity l.cores ≡ vec_capacity l.initial.cores;
  seats_space : vec_capacity l.seats ≡ vec_capacity l.initial.seats;
}
