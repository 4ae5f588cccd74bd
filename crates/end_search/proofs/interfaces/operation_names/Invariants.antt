use Rattle.std.proofs.Common.{◌≡◌, take}
use Rattle.description_types.specs.Items.{operation_names}
use Rattle.end_search.specs.Tables.{names_of}
use Rattle.end_search.proofs.interfaces.operation_names.Given as goal

abbrev pub invariant-loop-operation : goal.invariant-loop-operation
invariant-loop-operation l = names_of l.names.items ≡ operation_names (take l.operation-index l.operations)
