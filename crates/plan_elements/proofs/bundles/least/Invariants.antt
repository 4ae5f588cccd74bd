use Rattle.std.proofs.Common.{◌≡◌, drop}
use Rattle.bus_semantics.specs.Bundles.{least}
use Rattle.plan_elements.proofs.bundles.least.Given as goal

abbrev pub invariant-loop-label : goal.invariant-loop-label
invariant-loop-label l = least l.first l.labels ≡ least l.low (drop l.label-index l.labels)
