use Rattle.std.proofs.Common.{◌≡◌, map, take}
use Rattle.bus_semantics.specs.Common.{plan_of, places_at}
use Rattle.queue_objects.proofs.making.lengths_of.Given as goal

abbrev pub invariant-loop-elem : goal.invariant-loop-elem
invariant-loop-elem l = l.lengths.items ≡ map (places_at (plan_of l.p)) (take l.elem-index l.receivers)
