use Rattle.std.proofs.Common.{◌≡◌}
use Rattle.std.specs.Vec.{vec_capacity}
use Rattle.task_machine.specs.Machine.{settled}
use Rattle.task_machine.specs.Spots.{code_in, store_of, room_of}
use Rattle.task_machine.proofs.place.Place.settle.Given as goal

abbrev pub invariant-loop-self : goal.invariant-loop-self
invariant-loop-self l = record {
  settled : settled (code_in l.body) l.self.left l.self.place (store_of l.self.store) l.self.counters.items
      ≡ settled (code_in l.body) l.fn.self.left l.fn.self.place (store_of l.fn.self.store) l.fn.self.counters.items;
  room : room_of l.self.store ≡ room_of l.fn.self.store;
  counters_room : vec_capacity l.self.counters ≡ vec_capacity l.fn.self.counters;
}

abbrev pub decreases-loop-self : goal.decreases-loop-self
decreases-loop-self l = l.self.left
