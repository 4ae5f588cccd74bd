use Rattle.std.proofs.Common.{◌≡◌, ◌++◌, map, length}
use Rattle.std.specs.Vec.{vec_capacity}
use Rattle.std.specs.Vec.Iter.{into_iter_items, into_iter_len}
use Rattle.core_lanes.specs.Guiding.{AreFitting}
use Rattle.core_lanes.specs.Lanes.{core_in, seats_in}
use Rattle.core_lanes.proofs.benching.part_all.Given as goal

abbrev pub invariant-loop-lane : goal.invariant-loop-lane
invariant-loop-lane l = record {
  all : l.yielded ++ into_iter_items l.lane-iterator ≡ into_iter_items l.initial.lane-iterator;
  left : into_iter_len l.lane-iterator ≡ length (into_iter_items l.lane-iterator);
  cores : l.cores.items ≡ map core_in l.yielded;
  seats : l.seats.items ≡ seats_in l.yielded;
  fit : AreFitting (map core_in l.yielded) l.awake.items;
  cores_space : vec_capacity l.cores ≡ vec_capacity l.initial.cores;
  awake_count : length l.awake.items ≡ length l.yielded;
  awake_space : vec_capacity l.awake ≡ vec_capacity l.initial.awake;
  seats_space : vec_capacity l.seats ≡ vec_capacity l.initial.seats;
}
