use Rattle.std.proofs.Common.{◌≡◌, map, take}
use Rattle.serde_json.specs.View.{view}
use Rattle.declared_names.specs.Names.{short_names, text_of}
use Rattle.declared_names.proofs.names.short_names.Given as goal

abbrev pub invariant-loop-value : goal.invariant-loop-value
invariant-loop-value l = map text_of l.names.items ≡ short_names (map view (take l.value-index l.values))
