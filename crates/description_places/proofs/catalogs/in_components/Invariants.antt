use Rattle.std.proofs.Common.{◌≡◌, map, take}
use Rattle.serde_json.specs.View.{view}
use Rattle.description_places.specs.Catalogs.{component_lists}
use Rattle.description_places.proofs.catalogs.in_components.Given as goal

abbrev pub invariant-loop-value : goal.invariant-loop-value
invariant-loop-value l = l.lists.items ≡ map (component_lists l.interfaces) (map view (take l.value-index l.values))
