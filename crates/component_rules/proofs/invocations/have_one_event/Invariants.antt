use Rattle.std.proofs.Common.{◌≡◌, ◌==◌, ◌-◌}
use Rattle.plan_definitions.specs.Common.{each_number, count, same_operation}
use Rattle.component_rules.proofs.invocations.have_one_event.Given as goal

abbrev pub invariant-loop-operation : goal.invariant-loop-operation
invariant-loop-operation l = each_number (λ n. count (same_operation (l.port, n)) l.tally.keys.items == 1) 0 l.operations
    ≡ each_number (λ n. count (same_operation (l.port, n)) l.tally.keys.items == 1) l.operation (l.operations - l.operation)
