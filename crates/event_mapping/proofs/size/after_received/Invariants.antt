use Rattle.std.proofs.Common.{◌≡◌, ◌-◌, take}
use Rattle.std.specs.List.{sum_by}
use Rattle.plan_definitions.specs.Common.{elem_seen, received}
use Rattle.event_mapping.proofs.size.after_received.Given as goal

abbrev pub invariant-loop-element : goal.invariant-loop-element
invariant-loop-element l = l.rest ≡ l.left - sum_by (λ e. received (elem_seen e)) (take l.element-index l.elements)
