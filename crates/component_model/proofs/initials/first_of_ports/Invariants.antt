use Rattle.std.proofs.Common.{◌≡◌, drop}
use Rattle.description_types.specs.Lists.{from, first}
use Rattle.component_model.specs.Initials.{broken_of_port, broken_of_ports}
use Rattle.component_model.proofs.initials.first_of_ports.Given as goal

abbrev pub invariant-loop-position : goal.invariant-loop-position
invariant-loop-position l =
    first (from l.position (broken_of_port l.types l.owner) (drop l.position l.ports)) ≡ first (broken_of_ports l.types l.owner l.ports)
