use Rattle.std.proofs.Common.{codes}
use Rattle.serde_json.specs.View.{view}
use Rattle.declared_names.proofs.Sizes.{at_small, each_small}
use Rattle.declared_names.proofs.scopes.arguments.Goals as goal

pub arguments_in-requires : goal.arguments_in-requires
arguments_in-requires c = at_small (codes "operations") (view c.value-item.result) _ c.items_at.ensures
    (each_small c.args.values.now c.loop-value.value-index c.value-item.result c.loop-value-test.true c.value-item.is c.requires)
