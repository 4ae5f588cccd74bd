use Rattle.std.proofs.Common.{codes}
use Rattle.serde_json.specs.View.{view}
use Rattle.declared_names.proofs.Sizes.{at_small}
use Rattle.declared_names.proofs.scopes.interface_names.Goals as goal

pub items-requires : goal.items-requires
items-requires c = at_small (codes "interfaces") (view c.args.value.now) _ c.items_at-values.ensures c.requires

pub modes-requires : goal.modes-requires
modes-requires c = at_small (codes "modeGroups") (view c.args.value.now) _ c.items_at.ensures c.requires

pub arguments-requires : goal.arguments-requires
arguments-requires c = at_small (codes "interfaces") (view c.args.value.now) _ c.items_at-values.ensures c.requires
