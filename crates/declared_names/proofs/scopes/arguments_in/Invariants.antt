use Rattle.std.proofs.Common.{◌≡◌, map, take}
use Rattle.serde_json.specs.View.{view}
use Rattle.declared_names.specs.Scopes.{operation_arguments}
use Rattle.declared_names.proofs.scopes.arguments_in.Given as goal

abbrev pub invariant-loop-value : goal.invariant-loop-value
invariant-loop-value l = l.lists.items ≡ map operation_arguments (map view (take l.value-index l.values))
