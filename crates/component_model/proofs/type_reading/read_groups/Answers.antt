use Rattle.declared_names.proofs.Sizes.{each_small}
use Rattle.component_model.proofs.type_reading.read_groups.Goals as goal

pub read_group-requires : goal.read_group-requires
read_group-requires c = each_small c.args.values.now c.loop-value.value-index c.value-item.result c.loop-value-test.true c.value-item.is c.requires
