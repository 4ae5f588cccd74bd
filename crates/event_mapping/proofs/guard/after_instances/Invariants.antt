use Rattle.std.proofs.Common.{◌≡◌, ◌-◌, slice_get, take}
use Rattle.bus_semantics.specs.Common.{sum_by, unwrap_or}
use Rattle.event_mapping.proofs.guard.after_instances.Given as goal

abbrev pub invariant-loop-instance : goal.invariant-loop-instance
invariant-loop-instance l = l.rest ≡ l.left - sum_by (λ x. unwrap_or (slice_get l.counts x.component) 0) (take l.instance-index l.instances)
