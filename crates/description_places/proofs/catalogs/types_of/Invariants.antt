use Rattle.std.proofs.Common.{◌≡◌, map, take}
use Rattle.serde_json.specs.View.{view}
use Rattle.description_places.specs.Catalogs.{prototype_type}
use Rattle.description_places.proofs.catalogs.types_of.Given as goal

abbrev pub invariant-loop-prototype : goal.invariant-loop-prototype
invariant-loop-prototype l = l.list.items ≡ map (prototype_type l.components l.compositions) (map view (take l.prototype-index l.prototypes))
