use Rattle.std.proofs.Common.{◌≡◌, map, take}
use Rattle.serde_json.specs.View.{view}
use Rattle.component_model.specs.Compositions.{composition_reading}
use Rattle.component_model.proofs.composition_reading.read_compositions.Given as goal

abbrev pub invariant-loop-value : goal.invariant-loop-value
invariant-loop-value l = l.list.items ≡ map (composition_reading l.scope.interfaces l.scope.prototypes) (map view (take l.value-index l.values))
