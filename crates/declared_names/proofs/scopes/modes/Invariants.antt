use Rattle.std.proofs.Common.{◌≡◌, map, take}
use Rattle.serde_json.specs.View.{view}
use Rattle.declared_names.specs.Scopes.{mode_names}
use Rattle.declared_names.proofs.scopes.modes.Given as goal

abbrev pub invariant-loop-value : goal.invariant-loop-value
invariant-loop-value l = l.lists.items ≡ map (mode_names l.names (map view l.groups)) (map view (take l.value-index l.values))
