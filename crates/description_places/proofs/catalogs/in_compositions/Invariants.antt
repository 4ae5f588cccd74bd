use Rattle.std.proofs.Common.{◌≡◌, map, take}
use Rattle.serde_json.specs.View.{view}
use Rattle.description_places.specs.Catalogs.{composition_lists}
use Rattle.description_places.proofs.catalogs.in_compositions.Given as goal

abbrev pub invariant-loop-value : goal.invariant-loop-value
invariant-loop-value l = l.lists.items ≡ map (composition_lists l.known.interfaces.now l.known.components.now l.known.compositions.now) (map view (take l.value-index l.values))
