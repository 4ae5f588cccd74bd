use Rattle.std.proofs.Common.{◌≡◌, map, take}
use Rattle.std.specs.List.{flat_map}
use Rattle.plan_definitions.specs.Elements.{elem_seen}
use Rattle.plan_definitions.specs.Listed.{group_at}
use Rattle.plan_elements.proofs.bundles.groups_at.Given as goal

abbrev pub invariant-loop-element : goal.invariant-loop-element
invariant-loop-element l = l.found.items ≡ flat_map (group_at (map elem_seen l.elements)) (take l.element-index l.elems)
