use Rattle.declared_names.proofs.Sizes.{each_small}
use Rattle.declared_names.proofs.scopes.arguments_in.Goals as goal

pub declared-requires : goal.declared-requires
declared-requires c = each_small c.args.values.now c.loop-value.value-index c.value-item.result c.loop-value-test.true c.value-item.is c.requires
