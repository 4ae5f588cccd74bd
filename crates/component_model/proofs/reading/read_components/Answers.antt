use Rattle.component_model.specs.Programs.{component_reading, component_tree}
use Rattle.declared_names.proofs.Sizes.{each_small}
use Rattle.component_model.proofs.Lists.{item_read}
use Rattle.component_model.proofs.reading.read_components.Goals as goal

pub loop-value-preserved : goal.loop-value-preserved
loop-value-preserved c =
    item_read component_tree (component_reading c.args.scope.now) c.args.values.now c.loop-value.value-index c.value-item.result c.loop-value.list.items c.push.new.self.items c.in_ok-read_component.field-0
    c.loop-value-test.true c.value-item.is c.loop-value.invariant c.in_ok-read_component.ensures c.in_ok-push.ensures.items

pub read_component-requires-clause-value : goal.read_component-requires-clause-value
read_component-requires-clause-value c = each_small c.args.values.now c.loop-value.value-index c.value-item.result c.loop-value-test.true c.value-item.is c.requires.values
