use Rattle.std.proofs.Common.{◌≡◌, ◌++◌, drop}
use Rattle.plan_definitions.specs.Common.{from, outer_callings}
use Rattle.plan_services.proofs.callings.push_outer_ports.Given as goal

abbrev pub invariant-loop-number : goal.invariant-loop-number
invariant-loop-number l = l.initial.list.items ++ from 0 (outer_callings l.d) l.ports
    ≡ l.list.items ++ from l.number (outer_callings l.d) (drop l.number l.ports)
