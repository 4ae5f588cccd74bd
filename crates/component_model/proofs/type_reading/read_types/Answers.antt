use Rattle.std.proofs.Common.{codes}
use Rattle.serde_json.specs.View.{view}
use Rattle.declared_names.proofs.Sizes.{at_small}
use Rattle.component_model.proofs.type_reading.read_types.Goals as goal

pub read_groups-requires : goal.read_groups-requires
read_groups-requires c = at_small (codes "modeGroups") (view c.args.value.now) _ c.items_at-groups.ensures c.requires
