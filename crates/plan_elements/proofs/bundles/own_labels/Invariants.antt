use Rattle.std.proofs.Common.{◌≡◌}
use Rattle.bus_semantics.specs.Plan.{positions}
use Rattle.plan_elements.proofs.bundles.own_labels.Given as goal

abbrev pub invariant-loop-group : goal.invariant-loop-group
invariant-loop-group l = l.labels.items ≡ positions l.group
