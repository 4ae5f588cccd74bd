use Rattle.std.proofs.Common.{◌≡◌, ◌++◌, drop}
use Rattle.plan_definitions.specs.Common.{from, sites_of_instance}
use Rattle.plan_numbers.proofs.all_sites.push_instances.Given as goal

abbrev pub invariant-loop-number : goal.invariant-loop-number
invariant-loop-number l = l.initial.list.items ++ from 0 (sites_of_instance l.d) l.instances
    ≡ l.list.items ++ from l.number (sites_of_instance l.d) (drop l.number l.instances)
