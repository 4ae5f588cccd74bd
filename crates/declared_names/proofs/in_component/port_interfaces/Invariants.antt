use Rattle.std.proofs.Common.{◌≡◌, map, take}
use Rattle.serde_json.specs.View.{view}
use Rattle.declared_names.specs.Components.{interface_of_port}
use Rattle.declared_names.proofs.in_component.port_interfaces.Given as goal

abbrev pub invariant-loop-port : goal.invariant-loop-port
invariant-loop-port l = l.list.items ≡ map (interface_of_port l.interfaces) (map view (take l.port-index l.ports))
