use Rattle.std.proofs.Common.{codes}
use Rattle.serde_json.specs.View.{view}
use Rattle.declared_names.proofs.Sizes.{at_small}
use Rattle.declared_names.proofs.scopes.prototype_names.Goals as goal

pub ports-requires : goal.ports-requires
ports-requires c = at_small (codes "components") (view c.args.value.now) _ c.items_at.ensures c.requires

pub ports-requires-2 : goal.ports-requires-2
ports-requires-2 c = at_small (codes "compositions") (view c.args.value.now) _ c.items_at-2.ensures c.requires
