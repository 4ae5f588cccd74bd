use Rattle.std.proofs.Common.{map}
use Rattle.serde_json.specs.View.{view}
use Rattle.declared_names.proofs.Sizes.{few_modes}
use Rattle.declared_names.proofs.scopes.mode_names.Goals as goal

pub of-requires : goal.of-requires
of-requires c = few_modes (map view c.args.groups.now) c.find-group.result _ c.in_ok-modes.modes.items c.item.ensures c.in_ok-modes.ensures c.requires
