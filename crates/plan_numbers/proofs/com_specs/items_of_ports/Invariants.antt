use Rattle.std.proofs.Common.{◌≡◌, take}
use Rattle.plan_numbers.specs.ComSpecs.{items_of_ports}
use Rattle.plan_numbers.proofs.com_specs.items_of_ports.Given as goal

abbrev pub invariant-loop-port : goal.invariant-loop-port
invariant-loop-port l = l.tables.items ≡ items_of_ports (take l.port-index l.ports)
