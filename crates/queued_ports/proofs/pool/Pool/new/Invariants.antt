use Rattle.std.proofs.Common.{◌≡◌}
use Rattle.std.specs.List.{range_with_len}
use Rattle.std.specs.Vec.{vec_capacity}
use Rattle.queued_ports.proofs.pool.Pool.new.Given as goal

abbrev pub invariant-loop-block : goal.invariant-loop-block
invariant-loop-block l = record {
  so_far : l.free.items ≡ range_with_len 0 l.block;
  capacity : vec_capacity l.free ≡ vec_capacity l.initial.free;
}
