use Rattle.std.proofs.Common.{◌≡◌, map, take}
use Rattle.serde_json.specs.View.{view}
use Rattle.description_places.specs.Catalogs.{interface_at}
use Rattle.description_places.proofs.catalogs.interfaces_of.Given as goal

abbrev pub invariant-loop-port : goal.invariant-loop-port
invariant-loop-port l = l.list.items ≡ map (interface_at l.interfaces) (map view (take l.port-index l.ports))
