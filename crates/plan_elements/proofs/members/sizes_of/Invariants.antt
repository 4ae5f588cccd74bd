use Rattle.std.proofs.Common.{◌≡◌, length}
use Rattle.plan_elements.proofs.members.sizes_of.Given as goal

abbrev pub invariant-loop-group : goal.invariant-loop-group
invariant-loop-group l = length l.sizes.items ≡ l.count
