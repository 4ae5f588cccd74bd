use Rattle.std.proofs.Common.{◌≡◌, map, take}
use Rattle.plan_definitions.specs.Listed.{element_at}
use Rattle.plan_elements.proofs.lists.elements_at.Given as goal

abbrev pub invariant-loop-pair : goal.invariant-loop-pair
invariant-loop-pair l = l.elems.items ≡ map (element_at l.source.d.now l.source.f.now l.instance) (take l.pair-index l.pairs)
