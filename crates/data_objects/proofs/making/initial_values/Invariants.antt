use Rattle.std.proofs.Common.{◌≡◌, map, take}
use Rattle.bus_semantics.specs.Plan.{plan_of}
use Rattle.data_objects.specs.Layout.{initial_of}
use Rattle.data_objects.proofs.making.initial_values.Given as goal

abbrev pub invariant-loop-elem : goal.invariant-loop-elem
invariant-loop-elem l = l.inits.items ≡ map (initial_of (plan_of l.p)) (take l.elem-index l.elem-items)
