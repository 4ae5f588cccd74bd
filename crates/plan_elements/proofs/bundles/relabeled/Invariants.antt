use Rattle.std.proofs.Common.{◌≡◌, ◌==◌, cond, map, take}
use Rattle.std.specs.List.{list_any}
use Rattle.plan_elements.proofs.bundles.relabeled.Given as goal

abbrev pub invariant-loop-label : goal.invariant-loop-label
invariant-loop-label l = l.found.items ≡ map (λ k. cond (list_any (λ t. t == k) l.theirs) l.low k) (take l.label-index l.labels)
