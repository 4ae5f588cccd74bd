use Rattle.std.proofs.Common.{◌≡◌, map, take}
use Rattle.plan_definitions.specs.Elements.{elem_seen, element_of, group_of}
use Rattle.plan_elements.proofs.elements.elements_at.Given as goal

abbrev pub invariant-loop-number : goal.invariant-loop-number
invariant-loop-number l = map elem_seen l.list.items ≡ map (λ s. element_of l.source.d.now l.source.f.now (group_of l.source.d.now l.source.f.now s) s) (take l.number l.sites)
