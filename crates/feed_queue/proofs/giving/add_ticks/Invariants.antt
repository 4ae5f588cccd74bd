use Rattle.std.proofs.Common.{◌≡◌, ◌++◌, map, replicate}
use Rattle.bus_semantics.specs.Wanted.{to_tick, wanted_of}
use Rattle.feed_queue.proofs.giving.add_ticks.Given as goal

abbrev pub invariant-loop : goal.invariant-loop
invariant-loop l = map wanted_of l.list.items ≡ map wanted_of l.initial.list.items ++ replicate l.counter to_tick
