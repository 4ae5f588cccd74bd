use Rattle.std.proofs.Common.{◌≡◌, ◌++◌, drop}
use Rattle.plan_definitions.specs.Common.{from, sites_at}
use Rattle.plan_numbers.proofs.all_sites.push_ports.Given as goal

abbrev pub invariant-loop-number : goal.invariant-loop-number
invariant-loop-number l = l.initial.list.items ++ from 0 (sites_at l.types l.owner) l.ports
    ≡ l.list.items ++ from l.number (sites_at l.types l.owner) (drop l.number l.ports)
