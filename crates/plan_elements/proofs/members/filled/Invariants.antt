use Rattle.std.proofs.Common.{◌≡◌, map, take}
use Rattle.plan_definitions.specs.ElementGroups.{all_members}
use Rattle.plan_elements.proofs.members.filled.Given as goal

abbrev pub invariant-loop-element : goal.invariant-loop-element
invariant-loop-element l = map (λ v. v.items) l.lists.items ≡ all_members l.count (take l.element l.numbers)
