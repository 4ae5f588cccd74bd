use Rattle.std.proofs.Common.{◌≡◌, get_or, map, take}
use Rattle.plan_elements.proofs.bundles.labels_at.Given as goal

abbrev pub invariant-loop-group : goal.invariant-loop-group
invariant-loop-group l = l.theirs.items ≡ map (λ g. get_or l.labels g g) (take l.group-index l.groups)
