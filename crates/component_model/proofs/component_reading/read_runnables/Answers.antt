use Rattle.declared_names.proofs.Sizes.{each_small}
use Rattle.component_model.proofs.component_reading.read_runnables.Goals as goal

pub read_runnable-requires-clause-value : goal.read_runnable-requires-clause-value
read_runnable-requires-clause-value c = each_small c.args.values.now c.loop-value.value-index c.value-item.result c.loop-value-test.true c.value-item.is c.requires.values
