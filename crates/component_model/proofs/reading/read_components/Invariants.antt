use Rattle.std.proofs.Common.{◌≡◌, map, take}
use Rattle.serde_json.specs.View.{view}
use Rattle.component_model.specs.Programs.{component_reading, component_tree}
use Rattle.component_model.proofs.reading.read_components.Given as goal

abbrev pub invariant-loop-value : goal.invariant-loop-value
invariant-loop-value l = map component_tree l.list.items ≡ map (component_reading l.scope) (map view (take l.value-index l.values))
