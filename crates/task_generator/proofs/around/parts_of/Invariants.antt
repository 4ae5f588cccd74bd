use Rattle.std.proofs.Common.{◌≡◌, map, take}
use Rattle.bus_semantics.specs.Plan.{plan_of}
use Rattle.task_generator.specs.Code.{part_of}
use Rattle.task_generator.proofs.around.parts_of.Given as goal

abbrev pub invariant-loop-elem : goal.invariant-loop-elem
invariant-loop-elem l = l.parts.items ≡ map (part_of (plan_of l.p) l.elements) (take l.elem-index l.some)
