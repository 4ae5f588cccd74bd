use Rattle.std.proofs.Common.{◌≡◌, ◌++◌, map, drop}
use Rattle.task_generator.specs.Slots.{slot_of, slots_of}
use Rattle.task_generator.proofs.targets.slots_of.Given as goal

abbrev pub invariant-loop-elem : goal.invariant-loop-elem
invariant-loop-elem l = l.slots.items ++ map (λ x. slot_of x l.elements) (drop l.elem-index l.elements) ≡ slots_of l.elements
