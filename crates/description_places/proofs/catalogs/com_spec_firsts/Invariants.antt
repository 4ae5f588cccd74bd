use Rattle.std.proofs.Common.{◌≡◌, map, take}
use Rattle.serde_json.specs.View.{view}
use Rattle.description_places.specs.Catalogs.{com_spec_firsts}
use Rattle.description_places.proofs.catalogs.com_spec_firsts.Given as goal

abbrev pub invariant-loop-port : goal.invariant-loop-port
invariant-loop-port l = l.lists.items ≡ map com_spec_firsts (map view (take l.port-index l.ports))
