use Rattle.std.proofs.Common.{◌≡◌, ◌++◌, take}
use Rattle.std.specs.Vec.{vec_capacity}
use Rattle.server_objects.proofs.acting.append_all.Given as goal

abbrev pub invariant-loop-event : goal.invariant-loop-event
invariant-loop-event l = record {
  appended : l.woken.items ≡ l.initial.woken.items ++ take l.event-index l.events;
  room : vec_capacity l.woken ≡ vec_capacity l.initial.woken;
}
