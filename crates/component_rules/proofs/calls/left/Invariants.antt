use Rattle.std.proofs.Common.{◌≡◌, take}
use Rattle.std.specs.List.{flat_map}
use Rattle.plan_definitions.specs.Calls.{left_by}
use Rattle.component_rules.proofs.calls.left.Given as goal

abbrev pub invariant-loop-runnable : goal.invariant-loop-runnable
invariant-loop-runnable l = l.found.items ≡ flat_map (λ r. flat_map left_by r.accesses) (take l.runnable-index l.runnables)
