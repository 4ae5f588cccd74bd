use Rattle.std.proofs.Common.{◌≡◌, map, take}
use Rattle.serde_json.specs.View.{view}
use Rattle.description_places.specs.Catalogs.{operation_firsts}
use Rattle.description_places.proofs.catalogs.interface_firsts.Given as goal

abbrev pub invariant-loop-value : goal.invariant-loop-value
invariant-loop-value l = l.lists.items ≡ map (operation_firsts l.key) (map view (take l.value-index l.values))
