use Rattle.std.proofs.Common.{◌≡◌, take}
use Rattle.std.specs.Vec.{vec_capacity}
use Rattle.core_runtime.proofs.many.refilled.Given as goal

abbrev pub invariant-loop-stamped : goal.invariant-loop-stamped
invariant-loop-stamped l = record {
  items : l.entries.items ≡ take l.stamped-index l.made;
  capacity : vec_capacity l.entries ≡ vec_capacity l.initial.entries;
}
