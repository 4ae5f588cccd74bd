use Rattle.std.proofs.Common.{◌≡◌, [], map, replicate}
use Rattle.plan_elements.proofs.members.empties.Given as goal

abbrev pub invariant-loop-size : goal.invariant-loop-size
invariant-loop-size l = map (λ v. v.items) l.lists.items ≡ replicate l.size-index []
