use Rattle.std.proofs.Common.{◌≡◌, map, take}
use Rattle.serde_json.specs.View.{view}
use Rattle.declared_names.specs.Scopes.{port_names}
use Rattle.declared_names.proofs.scopes.ports.Given as goal

abbrev pub invariant-loop-value : goal.invariant-loop-value
invariant-loop-value l = l.lists.items ≡ map port_names (map view (take l.value-index l.values))
