use Rattle.serde_json.specs.View.{view}
use Rattle.declared_names.proofs.Sizes.{each_small, few_items}
use Rattle.declared_names.proofs.scopes.items.Goals as goal

pub of-requires : goal.of-requires
of-requires c = few_items (view c.value-item.result) c.in_ok-names.names.items c.in_ok-names.ensures
    (each_small c.args.values.now c.loop-value.value-index c.value-item.result c.loop-value-test.true c.value-item.is c.requires)
