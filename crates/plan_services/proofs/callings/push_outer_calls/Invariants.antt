use Rattle.std.proofs.Common.{◌≡◌, ◌++◌, ◌-◌, map}
use Rattle.plan_definitions.specs.Common.{positions, outer_calling}
use Rattle.plan_services.proofs.callings.push_outer_calls.Given as goal

abbrev pub invariant-loop-item : goal.invariant-loop-item
invariant-loop-item l = l.initial.list.items ++ map (outer_calling l.port) (positions 0 l.count)
    ≡ l.list.items ++ map (outer_calling l.port) (positions l.item (l.count - l.item))
