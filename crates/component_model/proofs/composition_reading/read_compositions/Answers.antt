use Rattle.declared_names.proofs.Sizes.{each_small}
use Rattle.component_model.proofs.composition_reading.read_compositions.Goals as goal

pub read_composition-requires : goal.read_composition-requires
read_composition-requires c = each_small c.args.values.now c.loop-value.value-index c.value-item.result c.loop-value-test.true c.value-item.is c.requires
