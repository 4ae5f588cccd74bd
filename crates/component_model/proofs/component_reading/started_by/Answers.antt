use Rattle.std.proofs.Common.{option_map}
use Rattle.declared_names.specs.Values.{seen}
use Rattle.component_model.proofs.Few.{few_variables}
use Rattle.component_model.proofs.component_reading.started_by.Goals as goal

pub read_program-requires : goal.read_program-requires
read_program-requires c =
    few_variables c.args.scope.now.interfaces.now c.args.scope.now.names.now (option_map seen c.args.event) c.in_ok-first.first.items _ _ c.deref.ensures.value c.in_ok-first.ensures c.requires.arguments c.requires.value
