use Rattle.std.proofs.Common.{◌≡◌, map, take}
use Rattle.serde_json.specs.View.{view}
use Rattle.component_model.specs.Types.{mode_group_reading}
use Rattle.component_model.proofs.type_reading.read_groups.Given as goal

abbrev pub invariant-loop-value : goal.invariant-loop-value
invariant-loop-value l = l.list.items ≡ map mode_group_reading (map view (take l.value-index l.values))
