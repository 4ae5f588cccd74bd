use Rattle.std.proofs.Common.{◌≡◌, map, take}
use Rattle.task_generator.specs.Slots.{slot_of}
use Rattle.task_generator.proofs.around.slots_among.Given as goal

abbrev pub invariant-loop-elem : goal.invariant-loop-elem
invariant-loop-elem l = l.slots.items ≡ map (λ x. slot_of x l.elements) (take l.elem-index l.some)
